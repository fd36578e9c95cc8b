-- The example is worked out cell by cell.
use Rattle.morphology.proofs.Edges.{edge_example}
use Rattle.morphology.proofs.examples.erosions_do_not_sum.Goals as goal

pub returns : goal.returns
returns c = edge_example
