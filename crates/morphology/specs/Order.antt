-- The order of sheets, and sheets that are made place by place from two.
--     UnderAt k o p       at one place: both have a cell and the first lies under the second, or neither has one
--     UnderSheet k f g    f and g are of one size, and f lies under g at every place
--     Alike f g           f and g are of one size and have cells at the same places
--     paired pick f g     the pick of the two cells at each place where both sheets have one
--     meet_sheet k f g    the meet of two sheets
--     join_sheet k f g    the join of two sheets
use Rattle.std.specs.Prelude.{◌≡◌, ℕ, Some, None, Option}
use Rattle.cells.specs.Lattice.{Lattice, Under}
use Rattle.sheets.specs.Sheet.{Sheet, has}

-- both have a cell and the first's lies under the second's, or neither has one
abbrev pub UnderAt : {C : Type 0} → Lattice C → Option C → Option C → Type 0
UnderAt k None None = Unit {0}
UnderAt k None (Some b) = ⊥
UnderAt k (Some a) None = ⊥
UnderAt k (Some a) (Some b) = Under k a b

-- of one size, and under at every place
pub record UnderSheet {C : Type 0} (k : Lattice C) (f g : Sheet C) : Type 0 where
  pub width : f.width ≡ g.width
  pub height : f.height ≡ g.height
  pub cells : (x y : ℕ) → UnderAt k (f.cell x y) (g.cell x y)

-- of one size, with cells at the same places
pub record Alike {C : Type 0} (f g : Sheet C) : Type 0 where
  pub width : f.width ≡ g.width
  pub height : f.height ≡ g.height
  pub places : (x y : ℕ) → has f x y ≡ has g x y

-- the pick of two cells, where there are two
abbrev pub both : {C : Type 0} → (C → C → C) → Option C → Option C → Option C
both pick None p = None
both pick (Some a) None = None
both pick (Some a) (Some b) = Some (pick a b)

-- a sheet of the first's size, picked from two at each place
abbrev pub paired : {C : Type 0} → (C → C → C) → Sheet C → Sheet C → Sheet C
paired pick f g = record {
  width = f.width;
  height = f.height;
  cell = λ x y. both pick (f.cell x y) (g.cell x y);
}

-- the meet of two sheets
abbrev pub meet_sheet : {C : Type 0} → Lattice C → Sheet C → Sheet C → Sheet C
meet_sheet k f g = paired k.meet f g

-- the join of two sheets
abbrev pub join_sheet : {C : Type 0} → Lattice C → Sheet C → Sheet C → Sheet C
join_sheet k f g = paired k.join f g
