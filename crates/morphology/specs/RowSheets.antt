-- Sheets of one row, to write examples with.
--     row ns           the gray sheet of one row with the numbers ns
--     Shows s ns       s is one row high, with the numbers ns
--     halfway a b      the gray cell halfway between two, a half rounded down
--     flag_row ns      the sheet of one row whose marks are the bits of the numbers ns
--     ShowsFlags s ns  s is one row high, with those marks
--     east, west       the points (1, 0) and (-1, 0)
use Rattle.std.specs.Prelude.{◌≡◌, ℕ, List, map, length, pos, ◌+ℤ◌, neg_ℤ, Some, Option}
use Rattle.std.specs.List.{slice_get, range_with_len}
use Rattle.std.specs.Option.{option_map}
use Rattle.cells.specs.Levels.{half_down}
use Rattle.cells.specs.Chain.{clamped}
use Rattle.cells.specs.Kinds.{GrayCell, gray_bounds, gray_cell, Marks, marks_of}
use Rattle.masks.specs.declared.point.Point.{Point}
use Rattle.sheets.specs.Sheet.{Sheet, sheet_of}

-- one row of cells
abbrev pub one_row : {C : Type 0} → List C → Sheet C
one_row cs = sheet_of (length cs) 1 (λ x y. slice_get cs x)

-- what stands in the row, from the west
abbrev pub read_row : {C : Type 0} → Sheet C → List (Option C)
read_row s = map (λ x. s.cell x 0) (range_with_len 0 s.width)

-- a row of grays
abbrev pub row : List ℕ → Sheet GrayCell
row ns = one_row (map gray_cell ns)

-- the numbers of the row, from the west
abbrev pub Shows : Sheet GrayCell → List ℕ → Type 0
Shows s ns = (s.height ≡ 1) × (map (option_map (λ c. c.number)) (read_row s) ≡ map (λ n. Some (pos n)) ns)

-- half of the sum of the two numbers, rounded down
abbrev pub halfway : GrayCell → GrayCell → GrayCell
halfway a b = clamped (pos 0) (pos 255) gray_bounds (half_down (a.number +ℤ b.number))

-- a row of flags, each a number whose bits are the marks
abbrev pub flag_row : List ℕ → Sheet Marks
flag_row ns = one_row (map marks_of ns)

-- the marks of the row, from the west
abbrev pub ShowsFlags : Sheet Marks → List ℕ → Type 0
ShowsFlags s ns = (s.height ≡ 1) × (read_row s ≡ map (λ n. Some (marks_of n)) ns)

-- the neighbour on the right
abbrev pub east : Point
east = record { u = pos 1; v = pos 0 }

-- the neighbour on the left
abbrev pub west : Point
west = record { u = neg_ℤ (pos 1); v = pos 0 }
