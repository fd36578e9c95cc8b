-- What a call from C is told.
--     answered_under m q n s    what the filter q of the sheet s under the mask m gives back, with a table of n cells
--     told r                    what that is told as
--     told_mask r               what a list of points is told as, where r is the ground on which it is refused
--     KeptOrDrawn r ps b a      rows of a mask that were b are a, those of the points ps, or b itself where they are refused
use Rattle.std.specs.Prelude.{◌≡◌, ℕ, List, [], ◌∷◌, Some, None, Option, Ok, Err, Result}
use Rattle.masks.specs.Faults.{number}
use Rattle.masks.specs.Rows.{Drawn}
use Rattle.masks.specs.declared.fault.MaskFault.{MaskFault}
use Rattle.masks.specs.declared.mask.Mask.{Mask}
use Rattle.masks.specs.declared.point.Point.{Point}
use Rattle.sheets.specs.Sheet.{Sheet}
use Rattle.morphology.specs.Calls.{answered}
use Rattle.morphology.specs.Refusals.{number as refusal_number, values}
use Rattle.morphology.specs.declared.call.Filter.{Filter}
use Rattle.morphology.specs.declared.refusal.Refusal.{Refusal}
use Rattle.filters_c.specs.declared.told.Told.{Told}

-- what a worksheet with that sheet and that mask answers
abbrev pub answered_under : {C : Type 0} → Mask → Filter → ℕ → Sheet C → Result ℕ Refusal
answered_under m q n s = answered q n (record { sheet = s; mask = Some m })

-- the picks that were made; or no picks, and the number of the refusal and its values
abbrev pub told : Result ℕ Refusal → Told
told (Ok picks) = record { refusal = 0; values = 0 ∷ 0 ∷ 0 ∷ 0 ∷ []; picks = picks }
told (Err r) = record { refusal = refusal_number r; values = values r; picks = 0 }

-- no number where the mask was made
abbrev pub told_mask : Option MaskFault → ℕ
told_mask None = 0
told_mask (Some f) = number f

abbrev pub KeptOrDrawn : Option MaskFault → List Point → List ℕ → List ℕ → Type 0
KeptOrDrawn None ps before after = Drawn after ps
KeptOrDrawn (Some f) ps before after = after ≡ before
