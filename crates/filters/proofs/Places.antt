-- Puts and places: what a put leaves where, and what a padded row shows.
use Rattle.std.proofs.Common.{◌≡◌, ℕ, ◌+◌, ◌-◌, ◌<◌, true, ◌≢◌, Some, arith}
use Rattle.std.proofs.lemmas.Bool.Decides.{nat_tests}
use Rattle.sheets.specs.Sheet.{Sheet, has, put_at}
use Rattle.filters.specs.Line.{or_else, padded}

module _ {C : Type 0} (s : Sheet C) (x y : ℕ) (c : C) where
  pub put_here : has s x y ≡ true → (put_at s x y c).cell x y ≡ Some c
  put_here h = grind (arith, nat_tests)

  pub put_column : (i j : ℕ) → i ≢ x → (put_at s x y c).cell i j ≡ s.cell i j
  put_column i j h = grind (arith, nat_tests)

  pub put_row : (i j : ℕ) → j ≢ y → (put_at s x y c).cell i j ≡ s.cell i j
  put_row i j h = grind (arith, nat_tests)

  -- the places that have a cell stay
  pub put_has : (i j : ℕ) → has (put_at s x y c) i j ≡ has s i j
  put_has i j = grind (arith, nat_tests)

module _ {K C : Type 0} (f : K → C) (z : C) (s : Sheet K) where
  pub pad_column : (y i : ℕ) → i < 15 → padded f z s y i ≡ z
  pad_column y i h = grind (arith, nat_tests)

  pub cell_column : (y x : ℕ) → padded f z s y (15 + x) ≡ or_else f z (s.cell x y)
  cell_column y x = let e : 15 + x - 15 ≡ x = omega arith in grind (arith, nat_tests, e)
