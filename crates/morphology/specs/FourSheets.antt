-- Opening and closing under one mask, again and again: which sheet stands, and how many there can be.
--     Step                      a lay of the one mask, or a filter of a sort with a table of some length
--     call m t                  the call that a step is, where m is the mask
--     accepted k m ts s         the sorts of the filters that are not refused, in order
--     standing qs               the name of what they leave, by the first of them, the last, and whether both sorts are there
--     outcome by qs f           the sheet of that name
--     four by q f               the four sheets that there can be, where q is the first sort
--     FourSheets k              that this is so
use Rattle.std.specs.Prelude.{◌≡◌, ℕ, Bool, true, false, cond, not, ◌||◌, List, [], ◌∷◌, map, Ok, Err, Result}
use Rattle.cells.specs.Lattice.{Lattice}
use Rattle.masks.specs.Points.{Among}
use Rattle.masks.specs.declared.mask.Mask.{Mask}
use Rattle.sheets.specs.Sheet.{Sheet}
use Rattle.morphology.specs.Calls.{State, new, verdict, after, run, sheets_shown}
use Rattle.morphology.specs.Standing.{filter_of, by_sort, named}
use Rattle.morphology.specs.declared.refusal.Refusal.{Refusal}
use Rattle.morphology.specs.declared.call.Filter.{Filter}
use Rattle.morphology.specs.declared.standing.Sort.{Sort}
use Rattle.morphology.specs.declared.standing.Sort.TheVariants.{Opening, Closing}
use Rattle.morphology.specs.declared.standing.Standing.{Standing}
use Rattle.morphology.specs.declared.standing.Standing.TheVariants.{Loaded, Once, Twice, Thrice}
use Rattle.morphology.specs.declared.call.Call.{Call}
use Rattle.morphology.specs.declared.call.Call.TheVariants.{Lay, Apply}

-- lay the one mask, or filter by a sort with a table of so many cells
pub data Step : Type 0 where
  LayMask : Step
  ApplySort : Sort → ℕ → Step

-- a step as a call
abbrev pub call : Mask → Step → Call
call m LayMask = Lay m
call m (ApplySort q n) = Apply (filter_of q) n

-- a filter that goes ahead is counted, a refused one is not
abbrev pub counted : Sort → Result Mask Refusal → List Sort → List Sort
counted q (Ok m) qs = q ∷ qs
counted q (Err r) qs = qs

-- the sorts of the accepted filters, in order
abbrev pub accepted : {C : Type 0} → Lattice C → Mask → List Step → State C → List Sort
accepted k m [] s = []
accepted k m (LayMask ∷ ts) s = accepted k m ts (after k (Lay m) s)
accepted k m (ApplySort q n ∷ ts) s = counted q (verdict s n) (accepted k m ts (after k (Apply (filter_of q) n) s))

-- the last of a sort and those that follow it
abbrev pub last : Sort → List Sort → Sort
last q [] = q
last q (r ∷ rs) = last r rs

-- whether two sorts are one
abbrev pub same : Sort → Sort → Bool
same Opening Opening = true
same Opening Closing = false
same Closing Opening = false
same Closing Closing = true

-- whether the other sort is among them
abbrev pub mixed : Sort → List Sort → Bool
mixed q [] = false
mixed q (r ∷ rs) = not (same q r) || mixed q rs

-- first and last are one sort: filtered once by it, or, where the other sort comes between, three times. They differ:
-- filtered by the first, and then by the last.
abbrev pub by_ends : Sort → Sort → Bool → Standing
by_ends a z mix = cond (same a z) (cond mix (Thrice a) (Once a)) (Twice a)

-- no filter: the sheet stands as it was loaded
abbrev pub standing : List Sort → Standing
standing [] = Loaded
standing (a ∷ qs) = by_ends a (last a qs) (mixed a qs)

-- what filters of these sorts leave
abbrev pub outcome : {S : Type 0} → (Sort → S → S) → List Sort → S → S
outcome by qs f = named by (standing qs) f

-- the names that there can be, where q is the first sort
abbrev pub names : Sort → List Standing
names q = Loaded ∷ Once q ∷ Twice q ∷ Thrice q ∷ []

-- and their sheets
abbrev pub four : {S : Type 0} → (Sort → S → S) → Sort → S → List S
four by q f = map (λ n. named by n f) (names q)

-- from a new worksheet, whatever the list and the lengths of the tables; the refused filters alter nothing
pub record FourSheets {C : Type 0} (k : Lattice C) : Type 0 where
  pub stands : (m : Mask) (ts : List Step) (f : Sheet C) →
      (run k (map (call m) ts) (new f)).sheet ≡ outcome (by_sort k m) (accepted k m ts (new f)) f
  pub at_most : (m : Mask) (ts : List Step) (f : Sheet C) →
      (q : Sort) × ((g : Sheet C) → Among (sheets_shown k (map (call m) ts) (new f)) g → Among (four (by_sort k m) q f) g)
  pub refused : (q : Filter) (n : ℕ) (s : State C) (r : Refusal) → verdict s n ≡ Err r → after k (Apply q n) s ≡ s
