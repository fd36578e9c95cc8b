-- By computation.
use Rattle.strips.proofs.Worked.{worked}
use Rattle.strips.proofs.examples.worked.Goals as goal

pub returns : goal.returns
returns c = worked
