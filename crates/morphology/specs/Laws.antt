-- What holds of the filters of every sheet under every list of points, so under every mask.
--     Bounds k        meets are greatest lower bounds, joins are least upper bounds, and there is one of each
--     Ordered k       lying under is an order of sheets
--     Monotone k      erosion and dilation keep the order of sheets
--     Turning k       a dilation is the erosion of the dual lattice under the turned points
--     Adjunction k    the first sheet dilated lies under the second exactly when the first lies under the second eroded
--     Openings k      what a user sees of openings and closings
--     Meeting k       erosion keeps meets, dilation keeps joins
--     Origin k        points that hold the origin make erosion lie under the sheet and dilation over it
--     OneHitList k    a sheet has one list of hits
use Rattle.std.specs.Prelude.{◌≡◌, ◌↔◌, List, map, Option}
use Rattle.cells.specs.Lattice.{Lattice, dual}
use Rattle.masks.specs.Points.{Among, origin, turned}
use Rattle.masks.specs.declared.point.Point.{Point}
use Rattle.sheets.specs.Sheet.{Sheet}
use Rattle.morphology.specs.declared.place.Place.{Place}
use Rattle.morphology.specs.Bounds.{meets, joins, GreatestLower, LeastUpper}
use Rattle.morphology.specs.Filters.{eroded, dilated, opened, closed}
use Rattle.morphology.specs.Find.{HitList}
use Rattle.morphology.specs.Order.{UnderSheet, Alike, meet_sheet, join_sheet}

-- the meet of some cells is their greatest lower bound, their join the least upper bound, and no other cell is
pub record Bounds {C : Type 0} (k : Lattice C) : Type 0 where
  pub meets_greatest : (os : List (Option C)) → GreatestLower k os (meets k os)
  pub meets_only : (os : List (Option C)) (m : C) → GreatestLower k os m → m ≡ meets k os
  pub joins_least : (os : List (Option C)) → LeastUpper k os (joins k os)
  pub joins_only : (os : List (Option C)) (m : C) → LeastUpper k os m → m ≡ joins k os

-- lying under is an order of sheets
pub record Ordered {C : Type 0} (k : Lattice C) : Type 0 where
  pub under_self : (f : Sheet C) → UnderSheet k f f
  pub under_next : (f g h : Sheet C) → UnderSheet k f g → UnderSheet k g h → UnderSheet k f h
  pub under_both : (f g : Sheet C) → UnderSheet k f g → UnderSheet k g f → f ≡ g

-- a sheet under another is eroded to a sheet under the other eroded, and dilated likewise
pub record Monotone {C : Type 0} (k : Lattice C) : Type 0 where
  pub eroded_monotone : (ps : List Point) (f g : Sheet C) → UnderSheet k f g → UnderSheet k (eroded k ps f) (eroded k ps g)
  pub dilated_monotone : (ps : List Point) (f g : Sheet C) → UnderSheet k f g → UnderSheet k (dilated k ps f) (dilated k ps g)

-- dilation is erosion seen from the other side, with the points turned about the origin
abbrev pub Turning : {C : Type 0} → Lattice C → Type 0
Turning {C} k = (ps : List Point) (f : Sheet C) → dilated k ps f ≡ eroded (dual k) (map turned ps) f

-- dilation and erosion are adjoint; sheets of unlike sizes, or with cells at other places, lie under each other on neither side
abbrev pub Adjunction : {C : Type 0} → Lattice C → Type 0
Adjunction {C} k = (ps : List Point) (f g : Sheet C) → UnderSheet k (dilated k ps f) g ↔ UnderSheet k f (eroded k ps g)

-- the opening lies under the sheet and the closing over it, and a second time changes nothing
pub record Openings {C : Type 0} (k : Lattice C) : Type 0 where
  pub opened_under : (ps : List Point) (f : Sheet C) → UnderSheet k (opened k ps f) f
  pub closed_over : (ps : List Point) (f : Sheet C) → UnderSheet k f (closed k ps f)
  pub opened_twice : (ps : List Point) (f : Sheet C) → opened k ps (opened k ps f) ≡ opened k ps f
  pub closed_twice : (ps : List Point) (f : Sheet C) → closed k ps (closed k ps f) ≡ closed k ps f

-- the erosion of a meet is the meet of the erosions, the dilation of a join the join of the dilations
pub record Meeting {C : Type 0} (k : Lattice C) : Type 0 where
  pub eroded_meet : (ps : List Point) (f g : Sheet C) → Alike f g →
      eroded k ps (meet_sheet k f g) ≡ meet_sheet k (eroded k ps f) (eroded k ps g)
  pub dilated_join : (ps : List Point) (f g : Sheet C) → Alike f g →
      dilated k ps (join_sheet k f g) ≡ join_sheet k (dilated k ps f) (dilated k ps g)

-- with the origin among the points, erosion only lowers a sheet and dilation only raises it
pub record Origin {C : Type 0} (k : Lattice C) : Type 0 where
  pub eroded_under : (ps : List Point) (f : Sheet C) → Among ps origin → UnderSheet k (eroded k ps f) f
  pub dilated_over : (ps : List Point) (f : Sheet C) → Among ps origin → UnderSheet k f (dilated k ps f)

-- what a find has to list is settled: two lists of the hits of one sheet are the same
abbrev pub OneHitList : {C : Type 0} → Lattice C → Type 0
OneHitList {C} k = (fore back : List Point) (f : Sheet C) (ps qs : List Place) →
    HitList k fore back f ps → HitList k fore back f qs → ps ≡ qs
