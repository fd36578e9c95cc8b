-- Whole rows have room.
use Rattle.std.proofs.Common.{◌≡◌, ℕ, zero, suc, ◌*◌, ◌≤◌, List, length, arith}
use Rattle.std.proofs.lemmas.Nat.{div-add-mod'}
use Rattle.std.proofs.lemmas.Bool.Decides.{nat_tests}
use Rattle.sheets.specs.Sheet.{held}
use Rattle.sheets.specs.Rows.{row_place, row_count, whole_rows}

fit : (w n : ℕ) → row_count w n * w ≤ n
fit zero n = omega arith
fit (suc w) n = omega (arith, div-add-mod' n (suc w))

-- whole rows have room
pub rows_made : {C : Type 0} (w h : ℕ) (cells : List C) → h ≡ row_count w (length cells) → held (h * w) w h (row_place w) cells ≡ whole_rows w cells
rows_made w h cells e = let l = fit w (length cells) in grind (arith, nat_tests, e, l)
