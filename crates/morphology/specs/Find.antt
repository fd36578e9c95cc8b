-- Find: the places where all that the fore points see stands above all that the back points see.
--     ahead f x y p                what the point p sees from the place x y: the cell at (x + u, y + v)
--     Complete f x y ps            every point sees a cell
--     Hit k fore back f x y        the place x y is a hit
--     Before p q                   p comes before q in row order
--     HitList k fore back f ps     the list has just the hits, in row order; their number is its length
--     find_picks fore back w h     the picks of a find
use Rattle.std.specs.Prelude.{◌≡◌, ℕ, ◌+◌, ◌<◌, true, ◌⊎◌, ◌↔◌, List, map, pos, ◌+ℤ◌, is_some, Option}
use Rattle.cells.specs.Lattice.{Lattice, Above}
use Rattle.masks.specs.Cost.{filter_picks}
use Rattle.masks.specs.Points.{Among, InOrder}
use Rattle.masks.specs.declared.mask.Mask.{Mask}
use Rattle.masks.specs.declared.point.Point.{Point}
use Rattle.sheets.specs.Sheet.{Sheet, has}
use Rattle.morphology.specs.Bounds.{meets, joins}
use Rattle.morphology.specs.Filters.{seen}
use Rattle.morphology.specs.declared.place.Place.{Place}

-- what a point sees from a place, as in an erosion
abbrev pub ahead : {C : Type 0} → Sheet C → ℕ → ℕ → Point → Option C
ahead f x y p = seen ◌+ℤ◌ f (pos x) (pos y) p

-- every point sees a cell
abbrev pub Complete : {C : Type 0} → Sheet C → ℕ → ℕ → List Point → Type 0
Complete f x y ps = (p : Point) → Among ps p → is_some (ahead f x y p) ≡ true

-- on the sheet, all points see a cell, and the least fore cell lies strictly above the greatest back cell
pub record Hit {C : Type 0} (k : Lattice C) (fore back : List Point) (f : Sheet C) (x y : ℕ) : Type 0 where
  pub on : has f x y ≡ true
  pub fores : Complete f x y fore
  pub backs : Complete f x y back
  pub above : Above k (meets k (map (ahead f x y) fore)) (joins k (map (ahead f x y) back))

-- in a row further north, or further west in the same row
abbrev pub Before : Place → Place → Type 0
Before p q = (p.y < q.y) ⊎ ((p.y ≡ q.y) × (p.x < q.x))

-- each place comes before all that follow
abbrev pub InRowOrder : List Place → Type 0
InRowOrder ps = InOrder Before ps

-- the list has the hits and nothing else, in row order
pub record HitList {C : Type 0} (k : Lattice C) (fore back : List Point) (f : Sheet C) (ps : List Place) : Type 0 where
  pub hits : (p : Place) → Among ps p ↔ Hit k fore back f p.x p.y
  pub order : InRowOrder ps

-- an erosion by the fore mask and one by the back mask
abbrev pub find_picks : Mask → Mask → ℕ → ℕ → ℕ
find_picks fore back w h = filter_picks fore.rows w h + filter_picks back.rows w h
