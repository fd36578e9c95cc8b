-- A worksheet's state, and what calls on it do, answer and show.
--     State C                a sheet, and perhaps a mask
--     new f                  the state of a new worksheet: the sheet f and no mask
--     filtered k q m f       what the filter q makes of a sheet under the mask m
--     picks q m w h          how many picks it takes
--     verdict s n            the mask that a filter with a table of n cells goes ahead under, or its refusal
--     answered q n s         what the filter q with a table of n cells gives back: its picks, or the refusal
--     reply r                that, as the answer to a call
--     after k c s            the state after a call
--     answer c s             the answer to a call
--     run k cs s             the state after a list of calls
--     answers k cs s         the answers to a list of calls
--     sheets_shown k cs s    the sheet before any call, and the sheet after each
--     filter_name q          the name of a filter, byte by byte
use Rattle.std.specs.Prelude.{ℕ, ◌*◌, List, [], ◌∷◌, codes, Some, None, Ok, Err, Option, Result}
use Rattle.cells.specs.Lattice.{Lattice}
use Rattle.masks.specs.Cost.{filter_picks}
use Rattle.masks.specs.declared.mask.Mask.{Mask}
use Rattle.sheets.specs.Sheet.{Sheet}
use Rattle.morphology.specs.Filters.{eroded, dilated, opened, closed, points_of}
use Rattle.morphology.specs.Refusals.{judged}
use Rattle.morphology.specs.declared.refusal.Refusal.{Refusal}
use Rattle.morphology.specs.declared.call.Filter.{Filter}
use Rattle.morphology.specs.declared.call.Filter.TheVariants.{Erode, Dilate, Open, Close}
use Rattle.morphology.specs.declared.call.Call.{Call}
use Rattle.morphology.specs.declared.call.Call.TheVariants.{Lay, Apply}
use Rattle.morphology.specs.declared.call.Answer.{Answer}
use Rattle.morphology.specs.declared.call.Answer.TheVariants.{Laid, Picks, Refused}

-- what a worksheet holds
pub record State (C : Type 0) : Type 0 where
  pub sheet : Sheet C
  pub mask : Option Mask

-- no mask is laid on a new worksheet
abbrev pub new : {C : Type 0} → Sheet C → State C
new f = record { sheet = f; mask = None }

-- the sheet that a filter leaves
abbrev pub filtered : {C : Type 0} → Lattice C → Filter → Mask → Sheet C → Sheet C
filtered k Erode m f = eroded k (points_of m) f
filtered k Dilate m f = dilated k (points_of m) f
filtered k Open m f = opened k (points_of m) f
filtered k Close m f = closed k (points_of m) f

-- an opening and a closing are two passes each
abbrev pub picks : Filter → Mask → ℕ → ℕ → ℕ
picks Erode m w h = filter_picks m.rows w h
picks Dilate m w h = filter_picks m.rows w h
picks Open m w h = 2 * filter_picks m.rows w h
picks Close m w h = 2 * filter_picks m.rows w h

-- whether a filter goes ahead depends on the sheet's size, the mask that lies and the table's length
abbrev pub verdict : {C : Type 0} → State C → ℕ → Result Mask Refusal
verdict s n = judged s.sheet.width s.sheet.height s.mask n

-- the sheet by that verdict: a refused filter changes nothing
abbrev pub sheet_by : {C : Type 0} → Lattice C → Filter → Result Mask Refusal → Sheet C → Sheet C
sheet_by k q (Ok m) f = filtered k q m f
sheet_by k q (Err r) f = f

-- what it gives back by that verdict, for a sheet w wide and h high: its picks, or the refusal
abbrev pub answered_by : Filter → Result Mask Refusal → ℕ → ℕ → Result ℕ Refusal
answered_by q (Ok m) w h = Ok (picks q m w h)
answered_by q (Err r) w h = Err r

abbrev pub answered : {C : Type 0} → Filter → ℕ → State C → Result ℕ Refusal
answered q n s = answered_by q (verdict s n) s.sheet.width s.sheet.height

-- that, as the answer to a call
abbrev pub reply : Result ℕ Refusal → Answer
reply (Ok n) = Picks n
reply (Err r) = Refused r

-- the state after a call
abbrev pub after : {C : Type 0} → Lattice C → Call → State C → State C
after k (Lay m) s = record { sheet = s.sheet; mask = Some m }
after k (Apply q n) s = record { sheet = sheet_by k q (verdict s n) s.sheet; mask = s.mask }

-- the answer to a call
abbrev pub answer : {C : Type 0} → Call → State C → Answer
answer (Lay m) s = Laid
answer (Apply q n) s = reply (answered q n s)

-- the state after a list of calls, one after the other
abbrev pub run : {C : Type 0} → Lattice C → List Call → State C → State C
run k [] s = s
run k (c ∷ cs) s = run k cs (after k c s)

-- the answers to them
abbrev pub answers : {C : Type 0} → Lattice C → List Call → State C → List Answer
answers k [] s = []
answers k (c ∷ cs) s = answer c s ∷ answers k cs (after k c s)

-- the sheet before any call and the sheet after each
abbrev pub sheets_shown : {C : Type 0} → Lattice C → List Call → State C → List (Sheet C)
sheets_shown k [] s = s.sheet ∷ []
sheets_shown k (c ∷ cs) s = s.sheet ∷ sheets_shown k cs (after k c s)

-- the name of a filter, byte by byte
abbrev pub filter_name : Filter → List ℕ
filter_name Erode = codes "erode"
filter_name Dilate = codes "dilate"
filter_name Open = codes "open"
filter_name Close = codes "close"
