-- Tiles: cells of a list in squares of 8 by 8, square by square.
--     eights n               how many squares cover n places in a line
--     room w h               how many cells the squares of a sheet of that size have
--     tile_place across x y  the index of the cell in column x and row y, where a row has `across` squares
--     in_tiles w h cells     the sheet of w by h cells
--     tiles_sheet t          what tiles show
use Rattle.std.specs.Prelude.{ℕ, ◌+◌, ◌*◌, ◌/◌, ◌%◌, List}
use Rattle.sheets.specs.declared.lent.Lent.{Lent}
use Rattle.sheets.specs.declared.tiles.InSquares.{InSquares}
use Rattle.sheets.specs.Sheet.{Sheet, held}
use Rattle.sheets.specs.Lent.{lent_sheet}

-- n / 8, rounded up
abbrev pub eights : ℕ → ℕ
eights n = (n + 7) / 8

-- 64 cells for each square, also where the sheet ends inside it
abbrev pub room : ℕ → ℕ → ℕ
room w h = eights w * eights h * 64

-- the squares before, row by row, and then the cells before in the square, row by row
abbrev pub tile_place : ℕ → ℕ → ℕ → ℕ
tile_place across x y = (y / 8 * across + x / 8) * 64 + (y % 8 * 8 + x % 8)

-- the sheet of an asked size, or 0 by 0 where its squares do not have their cells
abbrev pub in_tiles : {C : Type 0} → ℕ → ℕ → List C → Sheet C
in_tiles w h cells = held (room w h) w h (tile_place (eights w)) cells

-- the lent cells in squares
abbrev pub tiles_sheet : {C : Type 0} {g : _} → Lent C InSquares g → Sheet C
tiles_sheet t = lent_sheet room (λ w. tile_place (eights w)) t
