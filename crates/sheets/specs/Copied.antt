-- Copies: a sheet with cells of another.
--     copied o p             a cell p, replaced by the cell o where there are both
--     copied_where at s t    t with the cells of s at some places
--     same_size s t          whether two sheets have one width and one height
use Rattle.std.specs.Prelude.{ℕ, Bool, cond, ◌&&◌, Some, None, Option, ◌==◌}
use Rattle.std.specs.Option.{option_map}
use Rattle.sheets.specs.Sheet.{Sheet}

-- where either place has no cell, nothing changes
abbrev pub copied : {C : Type 0} → Option C → Option C → Option C
copied None p = p
copied (Some c) p = option_map (λ _. c) p

-- the cells of s come to the places where `at` says yes
abbrev pub copied_where : {C : Type 0} → (ℕ → ℕ → Bool) → Sheet C → Sheet C → Sheet C
copied_where at s t = record {
  width = t.width;
  height = t.height;
  cell = λ x y. cond (at x y) (copied (s.cell x y) (t.cell x y)) (t.cell x y);
}

-- one width and one height
abbrev pub same_size : {C : Type 0} → Sheet C → Sheet C → Bool
same_size s t = s.width == t.width && s.height == t.height
