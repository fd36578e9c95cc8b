-- Sheets: what a holder means. Assumes nothing.
--     Sheet C            a width, a height, and the cell at each place that has one
--     has s x y          whether the place in column x and row y has a cell
--     inside w h x y     whether x is below w and y below h
--     Whole s            the places with a cell are those inside the width and the height
--     put_at s x y c     s with c in place of the cell in column x and row y
--     shown f s          s with each cell read by f
--     sheet_of w h f     the sheet of that size whose cells are given by f
--     if_room r n w      w, or 0 where n is below r
--     held r w h p cs    the sheet of that size whose cell in column x and row y stands at p x y in a list
--     spot s p x y       that index, if the place is inside the size of s
use Rattle.std.specs.Prelude.{◌≡◌, ℕ, Bool, cond, ◌&&◌, List, length, is_some, Some, None, Option, ◌==◌, nat_le, nat_lt}
use Rattle.std.specs.List.{slice_get}
use Rattle.std.specs.Option.{option_map}

-- Columns count from 0 in the west, rows from 0 in the north; None where there is no cell.
pub record Sheet (C : Type 0) : Type 0 where
  pub width : ℕ
  pub height : ℕ
  pub cell : ℕ → ℕ → Option C

-- whether the place has a cell
abbrev pub has : {C : Type 0} → Sheet C → ℕ → ℕ → Bool
has s x y = is_some (s.cell x y)

-- the place lies in the first w columns and the first h rows
abbrev pub inside : ℕ → ℕ → ℕ → ℕ → Bool
inside w h x y = nat_lt x w && nat_lt y h

-- every place inside the width and the height has a cell, and no other place has one
abbrev pub Whole : {C : Type 0} → Sheet C → Type 0
Whole s = (x y : ℕ) → has s x y ≡ inside s.width s.height x y

-- the cell at one place is replaced, if it has one; every other stays
abbrev pub put_at : {C : Type 0} → Sheet C → ℕ → ℕ → C → Sheet C
put_at s x y c = record {
  width = s.width;
  height = s.height;
  cell = λ i j. cond (i == x && j == y) (option_map (λ _. c) (s.cell i j)) (s.cell i j);
}

-- each cell as f reads it
abbrev pub shown : {A B : Type 0} → (A → B) → Sheet A → Sheet B
shown f s = record { width = s.width; height = s.height; cell = λ x y. option_map f (s.cell x y) }

-- the sheet of a width and a height whose cells are those that f gives inside
abbrev pub sheet_of : {C : Type 0} → ℕ → ℕ → (ℕ → ℕ → Option C) → Sheet C
sheet_of w h f = record { width = w; height = h; cell = λ x y. cond (inside w h x y) (f x y) None }

-- an asked extent, or none where there is no room for what was asked
abbrev pub if_room : ℕ → ℕ → ℕ → ℕ
if_room r n w = cond (nat_le r n) w 0

-- the sheet that a list holds, where p says at which index the cell of a place stands; 0 by 0 if the list has not r cells
abbrev pub held : {C : Type 0} → ℕ → ℕ → ℕ → (ℕ → ℕ → ℕ) → List C → Sheet C
held r w h p cells = sheet_of (if_room r (length cells) w) (if_room r (length cells) h) (λ x y. slice_get cells (p x y))

-- the index of the cell of a place, or none off the sheet
abbrev pub spot : {C : Type 0} → Sheet C → (ℕ → ℕ → ℕ) → ℕ → ℕ → Option ℕ
spot s p x y = cond (inside s.width s.height x y) (Some (p x y)) None
