-- By the law itself.
use Rattle.strips.proofs.Trips.{one_job}
use Rattle.strips.proofs.laws.one_job.Goals as goal

pub returns : goal.returns
returns c = one_job
