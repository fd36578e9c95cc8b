-- Grays are ordered by their numbers.
use Rattle.std.proofs.Common.{pos}
use Rattle.cells.specs.Kinds.{gray_bounds}
use Rattle.cells.proofs.Chains.{ordered}
use Rattle.cells.proofs.gray.GrayMeasured.level.Goals as goal

pub returns-clause-ordered : goal.returns-clause-ordered
returns-clause-ordered c = ordered gray_bounds (λ g. pos g.0)
