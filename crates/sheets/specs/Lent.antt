-- Lent cells: what they show in a layout.
--     lent_sheet r p u   the sheet of lent cells, where r w h cells are room for w by h, and p w x y is the index of a place
use Rattle.std.specs.Prelude.{ℕ}
use Rattle.sheets.specs.declared.lent.Lent.{Lent}
use Rattle.sheets.specs.Sheet.{Sheet, held}

-- the sheet of their size that the cells hold
abbrev pub lent_sheet : {C L : Type 0} {g : _} → (ℕ → ℕ → ℕ) → (ℕ → ℕ → ℕ → ℕ) → Lent C L g → Sheet C
lent_sheet r p u = held (r u.size.width u.size.height) u.size.width u.size.height (p u.size.width) u.cells.now
