-- What a filter under a mask costs: the rows that the mask spans, the table to lend, the picks that are made.
--     spanned rows             V, the rows from the northmost point or the origin to the southmost or the origin
--     table_cells rows w       the cells of a table for a sheet w wide
--     filter_picks rows w h    the picks of an erosion or a dilation of a sheet w wide and h high
--     capped n                 n, or the largest number of 64 bits where n is above it
use Rattle.std.specs.Prelude.{ℕ, ◌+◌, ◌-◌, ◌*◌, ◌^◌, min, List, length, drop, ℤ, pos, ◌-ℤ◌, fold, sum_by, unsigned_abs}
use Rattle.std.specs.Int.{int_min, int_max}
use Rattle.masks.specs.Rows.{points}
use Rattle.masks.specs.Chords.{chords}
use Rattle.masks.specs.Lengths.{lengths}
use Rattle.masks.specs.declared.point.Point.{Point}

-- the farthest of the offsets v of some things and of the origin, on the side that the pick takes
abbrev pub farthest : {X : Type 0} → (ℤ → ℤ → ℤ) → (X → ℤ) → List X → ℤ
farthest pick v xs = fold (λ z x. pick z (v x)) (pos 0) xs

-- the least and the greatest v of some points and the origin
abbrev pub northmost : List Point → ℤ
northmost ps = farthest int_min (λ p. p.v) ps

abbrev pub southmost : List Point → ℤ
southmost ps = farthest int_max (λ p. p.v) ps

-- V: how many rows there are from the northmost to the southmost
unfoldable pub spanned : List ℕ → ℕ
spanned rows = unsigned_abs (southmost (points rows 31) -ℤ northmost (points rows 31)) + 1

-- V × n × (w + 30), with n lengths
unfoldable pub table_cells : List ℕ → ℕ → ℕ
table_cells rows w = spanned rows * length (lengths (chords rows 31)) * (w + 30)

-- the picks of one table line w wide: for each length a after the first, one at each of w + 31 - a starts
abbrev pub line_picks : ℕ → List ℕ → ℕ
line_picks w ns = sum_by (λ a. w + 31 - a) (drop 1 ns)

-- (h + V - 1) lines, and at each cell one pick for each chord after the first
unfoldable pub filter_picks : List ℕ → ℕ → ℕ → ℕ
filter_picks rows w h =
    (h + spanned rows - 1) * line_picks w (lengths (chords rows 31)) + w * h * (length (chords rows 31) - 1)

-- a count as a number of 64 bits
abbrev pub capped : ℕ → ℕ
capped n = min n (2 ^ 64 - 1)
