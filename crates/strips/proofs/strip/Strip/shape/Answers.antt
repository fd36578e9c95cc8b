-- The fields of a head have twelve bits.
use Rattle.strips.specs.Views.{left}
use Rattle.strips.proofs.Shapes.{shape_within}
use Rattle.strips.proofs.strip.Strip.shape.Goals as goal

pub returns-clause-within : goal.returns-clause-within
returns-clause-within c = shape_within (left c.args.self.now) (left c.item.new.self) c.in_ok-item.field-0.place c.in_ok-item.field-0.said c.shape.result c.in_ok-item.ensures.item c.shape.ensures
