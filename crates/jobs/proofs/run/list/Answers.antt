-- In each kind of cell a stored value has the word of the cell that it means.
use Rattle.std.proofs.Common.{◌≡◌, List, sym, subst}
use Rattle.std.proofs.lemmas.Result.{IfOk-weaker}
use Rattle.strips.specs.Views.{job_of}
use Rattle.jobs.specs.Acts.{job_acts, Alike}
use Rattle.jobs.specs.Listings.{listed}
use Rattle.jobs.specs.declared.act.Act.{Act}
use Rattle.jobs.proofs.InKinds.{gray_job, height_job, flags_job, return_job}
use Rattle.jobs.proofs.run.list.Goals as goal

pub returns-in-Gray : goal.returns-in-Gray
returns-in-Gray c =
    let j = job_of c.args.job.now in
    let xs = c.as_slice-acts.result.now in
    let h : Alike xs (job_acts j) = subst (λ (ys : List Act). Alike ys (job_acts j)) (sym c.as_slice-acts.ensures.value) c.in_ok-acts.ensures in
    IfOk-weaker c.list_as.result _ (λ v. v.items ≡ listed j) (λ v l. gray_job xs j v.items h c.in-Gray.ensures l) c.list_as.ensures

pub returns-in-Height : goal.returns-in-Height
returns-in-Height c =
    let j = job_of c.args.job.now in
    let xs = c.as_slice-acts.result.now in
    let h : Alike xs (job_acts j) = subst (λ (ys : List Act). Alike ys (job_acts j)) (sym c.as_slice-acts.ensures.value) c.in_ok-acts.ensures in
    IfOk-weaker c.list_as-in-Height.result _ (λ v. v.items ≡ listed j) (λ v l. height_job xs j v.items h c.in-Height.ensures l) c.list_as-in-Height.ensures

pub returns-in-Flags : goal.returns-in-Flags
returns-in-Flags c =
    let j = job_of c.args.job.now in
    let xs = c.as_slice-acts.result.now in
    let h : Alike xs (job_acts j) = subst (λ (ys : List Act). Alike ys (job_acts j)) (sym c.as_slice-acts.ensures.value) c.in_ok-acts.ensures in
    IfOk-weaker c.list_as-in-Flags.result _ (λ v. v.items ≡ listed j) (λ v l. flags_job xs j v.items h c.in-Flags.ensures l) c.list_as-in-Flags.ensures

pub returns : goal.returns
returns c =
    let j = job_of c.args.job.now in
    let xs = c.as_slice-acts.result.now in
    let h : Alike xs (job_acts j) = subst (λ (ys : List Act). Alike ys (job_acts j)) (sym c.as_slice-acts.ensures.value) c.in_ok-acts.ensures in
    IfOk-weaker c.list_as-in-Return.result _ (λ v. v.items ≡ listed j) (λ v l. return_job xs j v.items h c.in-Return.ensures l) c.list_as-in-Return.ensures
