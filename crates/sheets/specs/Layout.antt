-- Layouts: where a list has the cells of a sheet.
--     Within w h p n     every place inside has its index below n
--     Apart w h p        two places inside never share an index
use Rattle.std.specs.Prelude.{◌≡◌, ℕ, ◌<◌}

-- p x y is the index of the cell in column x and row y
abbrev pub Within : ℕ → ℕ → (ℕ → ℕ → ℕ) → ℕ → Type 0
Within w h p n = (x y : ℕ) → x < w → y < h → p x y < n

-- so a put at one place changes no other
abbrev pub Apart : ℕ → ℕ → (ℕ → ℕ → ℕ) → Type 0
Apart w h p = (i j x y : ℕ) → i < w → j < h → x < w → y < h → p i j ≡ p x y → (i ≡ x) × (j ≡ y)
