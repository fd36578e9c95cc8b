-- How the lines of a job are read.
--     sort_named bs          the sort that the word bs names, if it names one
--     IsThreshold f bs t     t is the threshold whose level is the value of the line bs, as f reads it
--     NoThreshold f l e      e is why the line l has none
use Rattle.std.specs.Prelude.{◌≡◌, ℕ, cond, List, codes, Some, None, Option, Result, bytes_eq, ◌⊎◌}
use Rattle.cells.specs.declared.threshold.Threshold.{Threshold}
use Rattle.morphology.specs.declared.standing.Sort.{Sort}
use Rattle.morphology.specs.declared.standing.Sort.TheVariants.{Opening, Closing}
use Rattle.std.specs.Borrow.{Bor}
use Rattle.texts.specs.Settings.{Valued}
use Rattle.texts.specs.declared.fault.JobFault.{JobFault}
use Rattle.texts.specs.declared.fault.JobFault.TheVariants.{NotAs}
use Rattle.texts.specs.declared.line.Line.{Line}

abbrev pub sort_named : List ℕ → Option Sort
sort_named bs = cond (bytes_eq bs (codes "open")) (Some Opening) (cond (bytes_eq bs (codes "close")) (Some Closing) None)

abbrev pub IsThreshold : {E : Type 0} → (List ℕ → Result ℕ E → Type 0) → List ℕ → Threshold → Type 0
IsThreshold f bs t = Valued f bs (Some t.level)

-- the line has no value, or the value 0, at which there is no threshold
abbrev pub NoThreshold : {E : Type 0} → (List ℕ → Result ℕ E → Type 0) → Line → JobFault → Type 0
NoThreshold f l e = (r : Bor (List ℕ)) × (e ≡ NotAs l.number r) × (r.now ≡ codes "a threshold is a whole number from 1 to 255")
    × (Valued f l.text.now None ⊎ Valued f l.text.now (Some 0))
