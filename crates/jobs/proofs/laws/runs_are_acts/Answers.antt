-- Each point lengthens the run.
use Rattle.jobs.proofs.Grouped.{runs}
use Rattle.jobs.proofs.laws.runs_are_acts.Goals as goal

pub returns : goal.returns
returns c = runs
