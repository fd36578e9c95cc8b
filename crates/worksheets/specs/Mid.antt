-- What a mid leaves, and what it answers.
--     BlendedAt k f level a b v           at one place, v is halfway between the stored values a and b, as far as both are there
--     Blended k f level done s r t        t is the sheet s, blended with r at the places that `done` tells
--     MidBy k f level v s one one' two two' t t' r   by the verdict v, what a mid of a worksheet that shows s leaves and answers
--     judged_sheets s two mask n          the verdict on a mid of the sheet s with the second sheet `two` and a table of n cells
--     PerformedMid k f level one two w w' v v' t t' r   from the worksheet w, the second holder v and the table t, a mid leaves w', v' and t' and answers r
use Rattle.std.specs.Prelude.{◌≡◌, ℕ, Bool, true, false, List, length, ℤ, ◌+ℤ◌, Some, None, Ok, Err, Option, Result}
use Rattle.cells.specs.Lattice.{Lattice}
use Rattle.cells.specs.Levels.{OrderedBy, half_down}
use Rattle.masks.specs.declared.mask.Mask.{Mask}
use Rattle.sheets.specs.Sheet.{Sheet, shown}
use Rattle.morphology.specs.Filters.{closed, points_of}
use Rattle.morphology.specs.Mid.{MidSheet, mid_picks}
use Rattle.morphology.specs.Refusals.{judged_mid}
use Rattle.morphology.specs.declared.refusal.Refusal.{Refusal}
use Rattle.worksheets.specs.declared.worksheet.Worksheet.{Worksheet}

-- halfway by level, in a kind that is ordered by its levels; where there are not two cells, the first stays
abbrev pub BlendedAt : {K C : Type 0} → Lattice C → (K → C) → (K → ℤ) → Option K → Option K → Option K → Type 0
BlendedAt k f level None b v = v ≡ None
BlendedAt k f level (Some a) None v = v ≡ Some a
BlendedAt k f level (Some a) (Some b) None = ⊥
BlendedAt k f level (Some a) (Some b) (Some v) = (level v ≡ half_down (level a +ℤ level b)) × OrderedBy k f level

-- the other places are as they were
pub record Blended {K C : Type 0} (k : Lattice C) (f : K → C) (level : K → ℤ) (done : ℕ → ℕ → Bool) (s r t : Sheet K) : Type 0 where
  pub width : t.width ≡ s.width
  pub height : t.height ≡ s.height
  pub blended : (x y : ℕ) → done x y ≡ true → BlendedAt k f level (s.cell x y) (r.cell x y) (t.cell x y)
  pub left : (x y : ℕ) → done x y ≡ false → t.cell x y ≡ s.cell x y

-- the worksheet has the mid and the second holder the closing; or all is as it was
abbrev pub MidBy : {K C : Type 0} → Lattice C → (K → C) → (K → ℤ) → Result Mask Refusal → Sheet C → Sheet K → Sheet K → Sheet K → Sheet K → List K → List K → Result ℕ Refusal → Type 0
MidBy k f level (Ok m) s one one' two two' t t' r =
    (r ≡ Ok (mid_picks m s.width s.height)) × MidSheet k f level (points_of m) s one' × (shown f two' ≡ closed k (points_of m) s)
MidBy k f level (Err why) s one one' two two' t t' r = (r ≡ Err why) × (one' ≡ one) × (two' ≡ two) × (t' ≡ t)

-- first the size, then the mask, then the table, and then the size of the second sheet
abbrev pub judged_sheets : {K : Type 0} → Sheet K → Sheet K → Option Mask → ℕ → Result Mask Refusal
judged_sheets s two mask n = judged_mid s.width s.height two.width two.height mask n

-- the mask stays in any case
pub record PerformedMid {K C S R : Type 0} (k : Lattice C) (f : K → C) (level : K → ℤ) (one : S → Sheet K) (two : R → Sheet K) (w w' : Worksheet S) (v v' : R) (t t' : List K) (r : Result ℕ Refusal) : Type 0 where
  pub done : MidBy k f level (judged_sheets (one w.holder) (two v) w.mask (length t)) (shown f (one w.holder)) (one w.holder) (one w'.holder) (two v) (two v') t t' r
  pub mask : w'.mask ≡ w.mask
  pub table : length t' ≡ length t
