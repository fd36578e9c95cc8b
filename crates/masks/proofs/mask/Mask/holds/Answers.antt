-- The points that are held are those of the list.
use Rattle.masks.proofs.Grids.{points_drawn}
use Rattle.masks.proofs.mask.Mask.holds.Goals as goal

pub returns-then-is_near-clause-points : goal.returns-then-is_near-clause-points
returns-then-is_near-clause-points c = points_drawn c.args.self.now.rows

pub returns-else-is_near-clause-points : goal.returns-else-is_near-clause-points
returns-else-is_near-clause-points c = points_drawn c.args.self.now.rows
