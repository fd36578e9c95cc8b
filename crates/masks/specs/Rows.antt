-- A mask's rows: 31 words, the northmost first. Bit c of word r is the point in column c and row r of the grid.
--     marked rows c r        the grid has a point in column c and row r
--     holds rows p           p is a point of the rows
--     columns rows r n       the columns below n that have a point in row r
--     Drawn rows ps          the rows have just the points of the list ps
--     points rows n          the points in the rows below n, row by row and each row from the left
use Rattle.std.specs.Prelude.{◌≡◌, ℕ, Bool, true, false, ◌&&◌, ◌↔◌, List, map, ℤ, pos, negsuc, ◌+ℤ◌, filter, nat_lt, slice_index}
use Rattle.std.specs.List.{range_with_len, flat_map}
use Rattle.bits.specs.Bit.{bit}
use Rattle.masks.specs.Points.{Among, point_at}
use Rattle.masks.specs.declared.point.Point.{Point}

-- a point stands in column c and row r, each from 0 to 30
abbrev pub marked : List ℕ → ℕ → ℕ → Bool
marked rows c r = nat_lt c 31 && (nat_lt r 31 && bit c (slice_index rows r))

-- the same of any two whole numbers
abbrev pub marked_at : List ℕ → ℤ → ℤ → Bool
marked_at rows (pos c) (pos r) = marked rows c r
marked_at rows (pos c) (negsuc r) = false
marked_at rows (negsuc c) r = false

-- the point is one of the rows'
abbrev pub holds : List ℕ → Point → Bool
holds rows p = marked_at rows (p.u +ℤ pos 15) (p.v +ℤ pos 15)

-- the columns below n that have a point in row r, from the left
unfoldable pub columns : List ℕ → ℕ → ℕ → List ℕ
columns rows r n = filter (λ c. marked rows c r) (range_with_len 0 n)

-- the points in the rows below n, row by row and each row from the left; with n = 31 all points
unfoldable pub points : List ℕ → ℕ → List Point
points rows n = flat_map (λ r. map (λ c. point_at c r) (columns rows r 31)) (range_with_len 0 n)

-- the rows have just the points of the list
abbrev pub Drawn : List ℕ → List Point → Type 0
Drawn rows ps = (p : Point) → (holds rows p ≡ true) ↔ Among ps p
