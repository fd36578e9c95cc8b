-- What a filter answers, and what it leaves.
--     verdict s m n           the mask m, or the ground on which a filter of the sheet s with a table of n cells is refused
--     eroded_by v k ps f      f eroded under the points ps, or f itself where the verdict is a refusal
--     WhereRefused v P        P holds where the verdict is a refusal
--     Filtered k f sheet q m h h' t t' r   from the holder h and the table t, the filter q under the mask m leaves h' and t' and answers r
use Rattle.std.specs.Prelude.{◌≡◌, ℕ, List, length, Some, Ok, Err, Result}
use Rattle.cells.specs.Lattice.{Lattice}
use Rattle.masks.specs.declared.mask.Mask.{Mask}
use Rattle.masks.specs.declared.point.Point.{Point}
use Rattle.sheets.specs.Sheet.{Sheet, shown}
use Rattle.morphology.specs.Filters.{eroded}
use Rattle.morphology.specs.Refusals.{judged}
use Rattle.morphology.specs.Calls.{sheet_by, answered_by}
use Rattle.morphology.specs.declared.call.Filter.{Filter}
use Rattle.morphology.specs.declared.refusal.Refusal.{Refusal}

-- first the size, then the table
abbrev pub verdict : {C : Type 0} → Sheet C → Mask → ℕ → Result Mask Refusal
verdict s m n = judged s.width s.height (Some m) n

-- the sheet by a verdict
abbrev pub eroded_by : {C : Type 0} → Result Mask Refusal → Lattice C → List Point → Sheet C → Sheet C
eroded_by (Ok m) k ps f = eroded k ps f
eroded_by (Err r) k ps f = f

abbrev pub WhereRefused : Result Mask Refusal → Type 0 → Type 0
WhereRefused (Ok m) P = Unit {0}
WhereRefused (Err r) P = P

-- the picks or the refusal, and the filtered sheet; a refused filter alters neither the holder's sheet nor the table
pub record Filtered {K C S : Type 0} (k : Lattice C) (f : K → C) (sheet : S → Sheet K) (q : Filter) (m : Mask) (h h' : S) (t t' : List K) (r : Result ℕ Refusal) : Type 0 where
  pub answer : r ≡ answered_by q (verdict (sheet h) m (length t)) (sheet h).width (sheet h).height
  pub after : shown f (sheet h') ≡ sheet_by k q (verdict (sheet h) m (length t)) (shown f (sheet h))
  pub refused : WhereRefused (verdict (sheet h) m (length t)) ((sheet h' ≡ sheet h) × (t' ≡ t))
  pub table : length t' ≡ length t
