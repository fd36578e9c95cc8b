-- What filters answer, as listings tell it, byte by byte.
--     refusal_text r     a refusal
--     answer_text a      an answer
--     row_text f cs      a row of the cells cs, whose words f gives
--     size_text s        a size that the filters refuse
use Rattle.std.specs.Prelude.{ℕ, List, [], ◌++◌, codes}
use Rattle.std.specs.Fmt.{decimal, signed_decimal}
use Rattle.std.specs.Int.{w32, cast_signed}
use Rattle.std.specs.List.{flat_map}
use Rattle.sheets.specs.declared.holder.Size.{Size}
use Rattle.morphology.specs.Refusals.{number}
use Rattle.morphology.specs.declared.call.Answer.{Answer}
use Rattle.morphology.specs.declared.call.Answer.TheVariants.{Laid, Picks, Refused}
use Rattle.morphology.specs.declared.refusal.Refusal.{Refusal}
use Rattle.morphology.specs.declared.refusal.Refusal.TheVariants.{ShortTable, WrongSize}

-- what a short table needs and has
abbrev pub table_text : Refusal → List ℕ
table_text (ShortTable needs has) = codes ", the table needs " ++ decimal needs ++ codes " cells and has " ++ decimal has
table_text r = []

abbrev pub refusal_text : Refusal → List ℕ
refusal_text r = codes "refused " ++ decimal (number r) ++ table_text r

abbrev pub answer_text : Answer → List ℕ
answer_text Laid = codes "laid"
answer_text (Picks n) = decimal n ++ codes " picks"
answer_text (Refused r) = refusal_text r

-- each cell behind a blank, by its word with a sign
abbrev pub cells_text : {K : Type 0} → (K → ℕ) → List K → List ℕ
cells_text f cs = flat_map (λ c. codes " " ++ signed_decimal (cast_signed w32 (f c))) cs

abbrev pub row_text : {K : Type 0} → (K → ℕ) → List K → List ℕ
row_text f cs = codes " " ++ cells_text f cs

abbrev pub size_text : Size → List ℕ
size_text s = refusal_text (WrongSize s) ++ codes ": the sheet is " ++ decimal s.width ++ codes " by " ++ decimal s.height ++ codes "; each goes from 1 to 2048"
