-- Where no step is left, the end closes the run.
use Rattle.std.proofs.lemmas.Result.{IfOk-weaker}
use Rattle.strips.specs.Views.{job_of}
use Rattle.jobs.specs.Acts.{job_acts, Alike}
use Rattle.jobs.proofs.Steps.{end_leads}
use Rattle.jobs.proofs.act.acts_of.Goals as goal

pub returns : goal.returns
returns c =
    let a = c.loop-step.acts in
    let all = job_acts (job_of c.args.job.now) in
    let leads = rw c.in-None.ensures.steps.0 at c.loop-step.invariant.leads in
    IfOk-weaker c.end.result _ (λ v. Alike v.items all) (λ v closes. end_leads a.first a.run.items a.done.items v.items all closes leads) c.end.ensures
