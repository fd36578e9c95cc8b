-- Rows: cells of a list, row by row.
--     row_place w x y    the index of the cell in column x and row y, where a row has w cells
--     row_count w n      how many whole rows of w cells n cells make
--     whole_rows w cells the sheet of those rows
--     rows_sheet r       what rows show
use Rattle.std.specs.Prelude.{ℕ, zero, suc, ◌+◌, ◌*◌, ◌/◌, List, length}
use Rattle.std.specs.List.{slice_get}
use Rattle.sheets.specs.declared.lent.Lent.{Lent}
use Rattle.sheets.specs.declared.rows.ByRow.{ByRow}
use Rattle.sheets.specs.Sheet.{Sheet, sheet_of}
use Rattle.sheets.specs.Lent.{lent_sheet}

-- the rows before, and then the columns before
abbrev pub row_place : ℕ → ℕ → ℕ → ℕ
row_place w x y = y * w + x

-- rows without cells count as none
abbrev pub row_count : ℕ → ℕ → ℕ
row_count zero n = 0
row_count (suc w) n = n / suc w

-- as many rows as the cells fill; cells after the last row are not on the sheet
abbrev pub whole_rows : {C : Type 0} → ℕ → List C → Sheet C
whole_rows w cells = sheet_of w (row_count w (length cells)) (λ x y. slice_get cells (row_place w x y))

-- h rows of w cells take h × w cells
abbrev pub rows_sheet : {C : Type 0} {g : _} → Lent C ByRow g → Sheet C
rows_sheet r = lent_sheet (λ w h. h * w) row_place r
