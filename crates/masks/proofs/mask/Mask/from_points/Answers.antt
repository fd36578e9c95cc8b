-- All points are near where the near front is the whole list, and the first of them is a point of the mask.
use Rattle.std.proofs.Common.{length, sym}
use Rattle.std.proofs.lemmas.Bool.{eqb-false}
use Rattle.masks.specs.Points.{near}
use Rattle.masks.proofs.Grids.{drawn_some}
use Rattle.masks.proofs.Lists.{none_beyond}
use Rattle.masks.proofs.mask.Mask.from_points.Goals as goal

pub drawn-requires : goal.drawn-requires
drawn-requires c =
    none_beyond near c.args.list.now c.in-None.ensures

pub invariant_of-result : goal.invariant_of-result
invariant_of-result c = record { some = drawn_some c.drawn.result c.args.list.now c.drawn.ensures (eqb-false (length c.args.list.now) 0 (sym c.if-is_empty.ensures)) }
