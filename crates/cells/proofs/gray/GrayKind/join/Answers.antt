-- The order of grays is that of their numbers.
use Rattle.std.proofs.Common.{pos}
use Rattle.std.specs.Ordering.{nat_cmp}
use Rattle.cells.specs.Kinds.{gray_bounds}
use Rattle.cells.specs.declared.gray.Gray.{Gray}
use Rattle.cells.proofs.Chains.{nat_less, larger_greatest}
use Rattle.cells.proofs.gray.GrayKind.join.Goals as goal

pub returns : goal.returns
returns c = larger_greatest gray_bounds (λ (g : Gray). pos g.0) (λ (a b : Gray). nat_cmp a.0 b.0) (λ a b. nat_less a.0 b.0) c.args.self c.args.other c.max.result c.max.ensures
