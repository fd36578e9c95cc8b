-- South-up: a sheet with its rows in the other order.
--     from_south h y    row y counted from the other end of h rows
--     flipped s         s with its southmost row first
--     turned_sheet f u  what the layer shows over a holder whose sheet is told by f
use Rattle.std.specs.Prelude.{ℕ, ◌-◌, cond, nat_lt}
use Rattle.sheets.specs.declared.south_up.SouthUp.{SouthUp}
use Rattle.sheets.specs.Sheet.{Sheet}

-- a row off the sheet stays where it is, off the sheet
abbrev pub from_south : ℕ → ℕ → ℕ
from_south h y = cond (nat_lt y h) (h - 1 - y) y

-- row y is row height - 1 - y
abbrev pub flipped : {C : Type 0} → Sheet C → Sheet C
flipped s = record { width = s.width; height = s.height; cell = λ x y. s.cell x (from_south s.height y) }

-- the sheet below, turned over
abbrev pub turned_sheet : {H C : Type 0} → (H → Sheet C) → SouthUp H → Sheet C
turned_sheet f u = flipped (f u.inner)
