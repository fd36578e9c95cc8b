-- What a worksheet shows, and what a filter that is called on it does.
--     state f sheet w                     the state of a worksheet: the sheet that its holder means, as f reads it, and its mask
--     under m h                           the worksheet of the holder h on which the mask m lies
--     Performed k f sheet q w w' t t' r   from the worksheet w and the table t, the filter q leaves w' and t' and answers r
use Rattle.std.specs.Prelude.{◌≡◌, ℕ, List, length, Some, Result}
use Rattle.cells.specs.Lattice.{Lattice}
use Rattle.masks.specs.declared.mask.Mask.{Mask}
use Rattle.sheets.specs.Sheet.{Sheet, shown}
use Rattle.morphology.specs.Calls.{State, verdict, answered, after}
use Rattle.morphology.specs.declared.call.Filter.{Filter}
use Rattle.morphology.specs.declared.call.Call.TheVariants.{Apply}
use Rattle.morphology.specs.declared.refusal.Refusal.{Refusal}
use Rattle.filters.specs.Calls.{WhereRefused}
use Rattle.worksheets.specs.declared.worksheet.Worksheet.{Worksheet}

-- a worksheet shows the sheet that its holder means, and the mask that lies on it
abbrev pub state : {K C S : Type 0} → (K → C) → (S → Sheet K) → Worksheet S → State C
state f sheet w = record { sheet = shown f (sheet w.holder); mask = w.mask }

abbrev pub under : {S : Type 0} → Mask → S → Worksheet S
under m h = record { holder = h; mask = Some m }

-- answer and state are those of the definitions; a refused filter alters neither the holder's sheet nor the table
pub record Performed {K C S : Type 0} (k : Lattice C) (f : K → C) (sheet : S → Sheet K) (q : Filter) (w w' : Worksheet S) (t t' : List K) (r : Result ℕ Refusal) : Type 0 where
  pub answer : r ≡ answered q (length t) (state f sheet w)
  pub after : state f sheet w' ≡ after k (Apply q (length t)) (state f sheet w)
  pub refused : WhereRefused (verdict (state f sheet w) (length t)) ((sheet w'.holder ≡ sheet w.holder) × (t' ≡ t))
  pub table : length t' ≡ length t
