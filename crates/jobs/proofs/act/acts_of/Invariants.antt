-- The steps that are left, behind the open run, lead to the same acts; their words have numbers.
use Rattle.std.proofs.Common.{◌+◌, ◌<◌, ◌^◌, length}
use Rattle.strips.specs.Views.{job_of, steps_left}
use Rattle.jobs.specs.Acts.{acts, job_acts}
use Rattle.jobs.proofs.Steps.{Leads}
use Rattle.jobs.proofs.act.acts_of.Given as goal

abbrev pub invariant-loop-step : goal.invariant-loop-step
invariant-loop-step l = record {
  leads : Leads l.acts.done.items (acts l.acts.first l.acts.run.items (steps_left l.step-iterator)) (job_acts (job_of l.job));
  words : l.acts.first + length l.acts.run.items + length (steps_left l.step-iterator) < 2 ^ 63;
  can : (goal.iterator-loop-step).can_next l.step-iterator;
  finite : (goal.iterator-loop-step).is_finite l.step-iterator;
}
