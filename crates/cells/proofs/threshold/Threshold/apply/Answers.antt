-- A threshold is a lattice map.
use Rattle.std.proofs.Common.{arith}
use Rattle.cells.proofs.Thresholds.{threshold_map}
use Rattle.cells.proofs.threshold.Threshold.apply.Goals as goal

pub returns-then-gray-self-clause-map : goal.returns-then-gray-self-clause-map
returns-then-gray-self-clause-map c = threshold_map c.args.self.level c.args.self.some (omega arith)

pub returns-else-gray-self-clause-map : goal.returns-else-gray-self-clause-map
returns-else-gray-self-clause-map c = threshold_map c.args.self.level c.args.self.some (omega arith)
