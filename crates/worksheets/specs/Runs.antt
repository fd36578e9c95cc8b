-- What a call from a list does, and what a list of calls does, with a lent table and a lent list for the answers.
--     within n c                           the call c with a table of at most n cells
--     made n m cs                          the calls of cs that are made with a table of n cells and places for m answers
--     Idle a                               a is the answer to a lay or to a refused filter
--     Called k f sheet c w w' t t' a       from the worksheet w and the table t, the call c leaves w' and t' and is answered by a
--     Ran k f sheet cs w w' t t' bs bs'    from w, t and the list bs, the calls cs leave w', t' and the list bs' with their answers
--     Stands k f sheet cs w w'             of the four sheets that the calls cs could show, the one that w' shows
use Rattle.std.specs.Prelude.{◌≡◌, ℕ, min, List, map, length, take, None}
use Rattle.std.specs.List.{AllByRecursion}
use Rattle.cells.specs.Lattice.{Lattice}
use Rattle.masks.specs.declared.mask.Mask.{Mask}
use Rattle.sheets.specs.Sheet.{Sheet}
use Rattle.morphology.specs.Calls.{after, answer, run, answers}
use Rattle.morphology.specs.Standing.{by_sort}
use Rattle.morphology.specs.FourSheets.{Step, call, accepted, outcome}
use Rattle.morphology.specs.declared.call.Call.{Call}
use Rattle.morphology.specs.declared.call.Call.TheVariants.{Lay, Apply}
use Rattle.morphology.specs.declared.call.Answer.{Answer}
use Rattle.morphology.specs.declared.call.Answer.TheVariants.{Laid, Picks, Refused}
use Rattle.filters.specs.Lists.{written}
use Rattle.worksheets.specs.declared.worksheet.Worksheet.{Worksheet}
use Rattle.worksheets.specs.Performed.{state}

-- a filter takes the front of the lent table, of the length that it names; where the table is shorter, all of it
abbrev pub within : ℕ → Call → Call
within n (Lay m) = Lay m
within n (Apply q a) = Apply q (min a n)

-- a call is made where its answer has a place
abbrev pub made : ℕ → ℕ → List Call → List Call
made n m cs = map (within n) (take m cs)

-- no filter went ahead
abbrev pub Idle : Answer → Type 0
Idle Laid = Unit {0}
Idle (Picks n) = ⊥
Idle (Refused r) = Unit {0}

-- answer and state are those of the definitions; where no filter went ahead, the holder's sheet and the table are as they were
pub record Called {K C S : Type 0} (k : Lattice C) (f : K → C) (sheet : S → Sheet K) (c : Call) (w w' : Worksheet S) (t t' : List K) (a : Answer) : Type 0 where
  pub answer : a ≡ answer c (state f sheet w)
  pub after : state f sheet w' ≡ after k c (state f sheet w)
  pub idle : Idle a → (sheet w'.holder ≡ sheet w.holder) × (t' ≡ t)
  pub table : length t' ≡ length t

-- the same of a list of calls
pub record Ran {K C S : Type 0} (k : Lattice C) (f : K → C) (sheet : S → Sheet K) (cs : List Call) (w w' : Worksheet S) (t t' : List K) (bs bs' : List Answer) : Type 0 where
  pub told : bs' ≡ written (answers k cs (state f sheet w)) bs
  pub after : state f sheet w' ≡ run k cs (state f sheet w)
  pub idle : AllByRecursion Idle (answers k cs (state f sheet w)) → (sheet w'.holder ≡ sheet w.holder) × (t' ≡ t)
  pub table : length t' ≡ length t

-- from a new worksheet, by lays of one mask, openings and closings: the first, the last and the sorts of the accepted filters decide
abbrev pub Stands : {K C S : Type 0} → Lattice C → (K → C) → (S → Sheet K) → List Call → Worksheet S → Worksheet S → Type 0
Stands k f sheet cs w w' =
    (m : Mask) (ts : List Step) → w.mask ≡ None → cs ≡ map (call m) ts →
    (state f sheet w').sheet ≡ outcome (by_sort k m) (accepted k m ts (state f sheet w)) (state f sheet w).sheet
