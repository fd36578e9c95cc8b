-- Parts: a rectangle of a sheet, counted from its own corner.
--     overlap size from extent  how many of `extent` places, the first of them at `from`, lie below `size`
--     unless_none n m           m, or 0 where n is 0
--     part s r                  what lies on s of a rectangle
--     common r q                a rectangle q that is counted from the corner of r, as far as it lies in r
--     window_sheet f u          what a window shows over a holder whose sheet is told by f
--     put_through f u x y c     the sheet below after a put on the window
use Rattle.std.specs.Prelude.{ℕ, zero, suc, ◌+◌, ◌-◌, min, cond, None}
use Rattle.sheets.specs.declared.window.Rectangle.{Rectangle}
use Rattle.sheets.specs.declared.window.Window.{Window}
use Rattle.sheets.specs.Sheet.{Sheet, has, inside, put_at}

-- the places from, from + 1, .. of an extent that are below the size
abbrev pub overlap : ℕ → ℕ → ℕ → ℕ
overlap size from extent = min extent (size - from)

-- a rectangle without rows counts as one without columns too, and the other way round
abbrev pub unless_none : ℕ → ℕ → ℕ
unless_none zero m = 0
unless_none (suc n) m = m

-- column x and row y of the part are the sheet's column left + x and row top + y
abbrev pub part : {C : Type 0} → Sheet C → Rectangle → Sheet C
part s r = record {
  width = unless_none (overlap s.height r.top r.size.height) (overlap s.width r.left r.size.width);
  height = unless_none (overlap s.width r.left r.size.width) (overlap s.height r.top r.size.height);
  cell = λ x y. cond (inside r.size.width r.size.height x y) (s.cell (r.left + x) (r.top + y)) None;
}

-- its corner is counted from where the corner of r is
abbrev pub common : Rectangle → Rectangle → Rectangle
common r q = record {
  left = r.left + q.left;
  top = r.top + q.top;
  size = record { width = overlap r.size.width q.left q.size.width; height = overlap r.size.height q.top q.size.height };
}

-- the part of the sheet below that lies in the window's rectangle
abbrev pub window_sheet : {H C : Type 0} → (H → Sheet C) → Window H → Sheet C
window_sheet f u = part (f u.inner) u.asked

-- the cell below the place is replaced, and no other; where the window shows no cell, none is
abbrev pub put_through : {H C : Type 0} → (H → Sheet C) → Window H → ℕ → ℕ → C → Sheet C
put_through f u x y c = cond (has (window_sheet f u) x y) (put_at (f u.inner) (u.asked.left + x) (u.asked.top + y) c) (f u.inner)
