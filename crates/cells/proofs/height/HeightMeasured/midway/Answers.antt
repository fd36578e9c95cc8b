-- Heights are ordered by their numbers.
use Rattle.cells.specs.Kinds.{height_bounds}
use Rattle.cells.proofs.Chains.{ordered}
use Rattle.cells.proofs.height.HeightMeasured.midway.Goals as goal

pub returns-clause-ordered : goal.returns-clause-ordered
returns-clause-ordered c = ordered height_bounds (λ h. h.0)
