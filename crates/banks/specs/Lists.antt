-- The length of the list of a job.
--     IsLength f bs n      n is the value of the line bs, as f reads it, and at most 65,536
--     NoLength f l e       e is why the line l has none
use Rattle.std.specs.Prelude.{◌≡◌, ◌≤◌, ◌<◌, ◌⊎◌, ℕ, List, codes, Some, None, Result}
use Rattle.std.specs.Borrow.{Bor}
use Rattle.texts.specs.Settings.{Valued}
use Rattle.texts.specs.declared.fault.JobFault.{JobFault}
use Rattle.texts.specs.declared.fault.JobFault.TheVariants.{NotAs}
use Rattle.texts.specs.declared.line.Line.{Line}

abbrev pub IsLength : {E : Type 0} → (List ℕ → Result ℕ E → Type 0) → List ℕ → ℕ → Type 0
IsLength f bs n = Valued f bs (Some n) × (n ≤ 65536)

-- the line has no value, or one that is above it
abbrev pub NoLength : {E : Type 0} → (List ℕ → Result ℕ E → Type 0) → Line → JobFault → Type 0
NoLength f l e = (r : Bor (List ℕ)) × (e ≡ NotAs l.number r) × (r.now ≡ codes "a list has a whole number of places, from 0 to 65536")
    × (Valued f l.text.now None ⊎ ((n : ℕ) × Valued f l.text.now (Some n) × (65536 < n)))
