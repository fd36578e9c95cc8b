-- Steps, one after the other.
use Rattle.std.proofs.Common.{ℕ, List, [], ◌++◌, subst}
use Rattle.std.proofs.lemmas.List.{append-nil}
use Rattle.masks.specs.declared.point.Point.{Point}
use Rattle.jobs.specs.Acts.{acts, Alike, EndsRun}
use Rattle.jobs.specs.declared.act.Act.{Act}
use Rattle.jobs.proofs.Acts.{closes_alike}

-- what is left, with more before it, is all
abbrev pub Leads : List Act → List Act → List Act → Type 0
Leads done rest all = (more : List Act) → Alike more rest → Alike (done ++ more) all

-- the end closes the run
pub end_leads : (w : ℕ) (ps : List Point) (done new all : List Act) → EndsRun w ps done new → Leads done (acts w ps []) all → Alike new all
end_leads w ps done new all c leads =
    let whole = closes_alike w ps done new [] [] all c leads tt in
    subst (λ (r : List Act). Alike r all) (append-nil new) whole
