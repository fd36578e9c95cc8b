-- South-up: turning over twice, and a put through the turn.
use Rattle.std.proofs.Common.{◌≡◌, ℕ, Bool, true, false, cond, sym, refl, ap, ◌∙◌, arith}
use Rattle.std.proofs.lemmas.Bool.Decides.{nat_tests}
use Rattle.sheets.specs.Sheet.{Sheet, put_at}
use Rattle.sheets.specs.SouthUp.{from_south, flipped}
use Rattle.sheets.proofs.Equal.{same_sheet}

from_south_twice : (h y : ℕ) → from_south h (from_south h y) ≡ y
from_south_twice h y = grind (arith, nat_tests)

flipped_twice : {C : Type 0} (s : Sheet C) → flipped (flipped s) ≡ s
flipped_twice s = same_sheet (flipped (flipped s)) s refl refl (λ x y. ap (s.cell x) (from_south_twice s.height y))

flipped_put : {C : Type 0} (s : Sheet C) (x y : ℕ) (c : C) → flipped (put_at (flipped s) x y c) ≡ put_at s x (from_south s.height y) c
flipped_put s x y c =
    same_sheet (flipped (put_at (flipped s) x y c)) (put_at s x (from_south s.height y) c) refl refl
    (λ i j. let e = ap (s.cell i) (from_south_twice s.height j) in grind (arith, nat_tests, e))

-- a put on the turned sheet, or none, is a put on the sheet, or none
pub put_turned : {C : Type 0} (i : Bool) (s t : Sheet C) (x y : ℕ) (c : C) →
    flipped t ≡ cond i (put_at (flipped s) x y c) (flipped s) → t ≡ cond i (put_at s x (from_south s.height y) c) s
put_turned true s t x y c e = sym (flipped_twice t) ∙ ap flipped e ∙ flipped_put s x y c
put_turned false s t x y c e = sym (flipped_twice t) ∙ ap flipped e ∙ flipped_twice s
