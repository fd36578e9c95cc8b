-- The order of heights is that of their numbers.
use Rattle.std.specs.Ordering.{int_cmp}
use Rattle.cells.specs.Kinds.{height_bounds}
use Rattle.cells.specs.declared.height.Height.{Height}
use Rattle.cells.proofs.Chains.{int_less, smaller_least}
use Rattle.cells.proofs.height.HeightKind.meet.Goals as goal

pub returns : goal.returns
returns c = smaller_least height_bounds (λ (h : Height). h.0) (λ (a b : Height). int_cmp a.0 b.0) (λ a b. int_less a.0 b.0) c.args.self c.args.other c.min.result c.min.ensures
