-- The lines are worked out.
use Rattle.jobs.proofs.WorkedLines.{worked}
use Rattle.jobs.proofs.examples.worked.Goals as goal

pub returns : goal.returns
returns c = worked
