-- Mid: halfway between the opening and the closing.
--     mid k midway ps f            at each place, the midway of the opening and the closing
--     mid_picks m w h              the picks of a mid: those of an opening and of a closing
--     Halfway f level o c v        the stored value v is halfway between the cells o and c
--     HalfwayAt f level o c v      at one place: v is halfway between o and c, or there is no cell
--     MidSheet k f level ps s t    t, with its values as they are stored, is the mid of the sheet s
--     Between k f ps s t           t lies between the opening of s and the closing
--     MidLaws k f level            there is one mid, it lies between, and it is made by any midway that goes by level
use Rattle.std.specs.Prelude.{◌≡◌, ℕ, ◌*◌, List, ℤ, ◌+ℤ◌, Some, None, Option}
use Rattle.cells.specs.Lattice.{Lattice}
use Rattle.cells.specs.Levels.{OrderedBy, half_down}
use Rattle.masks.specs.Cost.{filter_picks}
use Rattle.masks.specs.declared.mask.Mask.{Mask}
use Rattle.masks.specs.declared.point.Point.{Point}
use Rattle.sheets.specs.Sheet.{Sheet, shown}
use Rattle.morphology.specs.Filters.{opened, closed}
use Rattle.morphology.specs.Order.{UnderSheet, paired}

-- the sheet that a mid leaves; in the second sheet it leaves the closing
abbrev pub mid : {C : Type 0} → Lattice C → (C → C → C) → List Point → Sheet C → Sheet C
mid k midway ps f = paired midway (opened k ps f) (closed k ps f)

-- two erosions and two dilations
abbrev pub mid_picks : Mask → ℕ → ℕ → ℕ
mid_picks m w h = 4 * filter_picks m.rows w h

-- its level is half the sum of the levels of values a and b that mean the two cells, rounded down
abbrev pub Halfway : {K C : Type 0} → (K → C) → (K → ℤ) → C → C → K → Type 0
Halfway {K} f level o c v = (a : K) × (b : K) × (f a ≡ o) × (f b ≡ c) × (level v ≡ half_down (level a +ℤ level b))

abbrev pub HalfwayAt : {K C : Type 0} → (K → C) → (K → ℤ) → Option C → Option C → Option K → Type 0
HalfwayAt f level None None None = Unit {0}
HalfwayAt f level None None (Some v) = ⊥
HalfwayAt f level None (Some c) v = ⊥
HalfwayAt f level (Some o) None v = ⊥
HalfwayAt f level (Some o) (Some c) None = ⊥
HalfwayAt f level (Some o) (Some c) (Some v) = Halfway f level o c v

-- of the sheet's size, and halfway at every place
pub record MidSheet {K C : Type 0} (k : Lattice C) (f : K → C) (level : K → ℤ) (ps : List Point) (s : Sheet C) (t : Sheet K) : Type 0 where
  pub width : t.width ≡ s.width
  pub height : t.height ≡ s.height
  pub cells : (x y : ℕ) → HalfwayAt f level ((opened k ps s).cell x y) ((closed k ps s).cell x y) (t.cell x y)

-- over the opening and under the closing, at every place
abbrev pub Between : {K C : Type 0} → Lattice C → (K → C) → List Point → Sheet C → Sheet K → Type 0
Between k f ps s t = UnderSheet k (opened k ps s) (shown f t) × UnderSheet k (shown f t) (closed k ps s)

-- for every kind that is ordered by its levels
pub record MidLaws {K C : Type 0} (k : Lattice C) (f : K → C) (level : K → ℤ) : Type 0 where
  pub one : OrderedBy k f level → (ps : List Point) (s : Sheet C) (t u : Sheet K) → MidSheet k f level ps s t → MidSheet k f level ps s u → shown f t ≡ shown f u
  pub between : OrderedBy k f level → (ps : List Point) (s : Sheet C) (t : Sheet K) → MidSheet k f level ps s t → Between k f ps s t
  pub by_midway : (midway : C → C → C) → ((a b v : K) → level v ≡ half_down (level a +ℤ level b) → f v ≡ midway (f a) (f b)) →
      (ps : List Point) (s : Sheet C) (t : Sheet K) → MidSheet k f level ps s t → shown f t ≡ mid k midway ps s
