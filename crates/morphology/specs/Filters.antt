-- The four filters of a sheet under a list of points.
--     at s x y             the cell in column x and row y, which may be any whole numbers
--     seen go f x y p      the cell that the point p leads to from the place x y
--     gathered k go ps f   at each place, the meet of the cells that the points lead to
--     eroded k ps f        the erosion: the meet of f (x + u, y + v)
--     dilated k ps f       the dilation: the join of f (x - u, y - v)
--     opened k ps f        the opening: the erosion, and then its dilation
--     closed k ps f        the closing: the dilation, and then its erosion
--     points_of m          the points of a mask
use Rattle.std.specs.Prelude.{List, map, ℤ, pos, negsuc, ◌+ℤ◌, ◌-ℤ◌, None, Option}
use Rattle.std.specs.Option.{option_map}
use Rattle.cells.specs.Lattice.{Lattice, dual}
use Rattle.masks.specs.Rows.{points}
use Rattle.masks.specs.declared.mask.Mask.{Mask}
use Rattle.masks.specs.declared.point.Point.{Point}
use Rattle.sheets.specs.Sheet.{Sheet}
use Rattle.morphology.specs.Bounds.{meets}

-- the cell at a place; a negative column or row has none
abbrev pub at : {C : Type 0} → Sheet C → ℤ → ℤ → Option C
at s (pos x) (pos y) = s.cell x y
at s (pos x) (negsuc y) = None
at s (negsuc x) y = None

-- the cell at the place where the point's offsets lead to, by the step go
abbrev pub seen : {C : Type 0} → (ℤ → ℤ → ℤ) → Sheet C → ℤ → ℤ → Point → Option C
seen go f x y p = at f (go x p.u) (go y p.v)

-- the meet of the cells that are seen, at each place that has a cell; a place without one stays without
unfoldable pub gathered : {C : Type 0} → Lattice C → (ℤ → ℤ → ℤ) → List Point → Sheet C → Sheet C
gathered k go ps f = record {
  width = f.width;
  height = f.height;
  cell = λ x y. option_map (λ _. meets k (map (seen go f (pos x) (pos y)) ps)) (f.cell x y);
}

-- erosion: the points are added, and a place off the sheet is left out
abbrev pub eroded : {C : Type 0} → Lattice C → List Point → Sheet C → Sheet C
eroded k ps f = gathered k ◌+ℤ◌ ps f

-- dilation: the points are subtracted, and the join is taken for the meet
abbrev pub dilated : {C : Type 0} → Lattice C → List Point → Sheet C → Sheet C
dilated k ps f = gathered (dual k) ◌-ℤ◌ ps f

-- opening: an erosion, and then a dilation
abbrev pub opened : {C : Type 0} → Lattice C → List Point → Sheet C → Sheet C
opened k ps f = dilated k ps (eroded k ps f)

-- closing: a dilation, and then an erosion
abbrev pub closed : {C : Type 0} → Lattice C → List Point → Sheet C → Sheet C
closed k ps f = eroded k ps (dilated k ps f)

-- the points of a mask, as a list
abbrev pub points_of : Mask → List Point
points_of m = points m.rows 31
