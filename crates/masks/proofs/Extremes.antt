-- The farthest offset of a list, by a pick that is associative, commutative and idempotent.
use Rattle.std.proofs.Common.{◌≡◌, List, [], ◌∷◌, ℤ, pos, fold, sym, refl, ap, ◌∙◌, inl, inr, arith}
use Rattle.std.specs.Int.{int_min, int_max}
use Rattle.std.proofs.lemmas.Int.{ints, clamps}
use Rattle.masks.specs.Points.{Among}
use Rattle.masks.specs.Cost.{farthest}

-- the laws of a pick of two numbers
record Picks (f : ℤ → ℤ → ℤ) : Type 0 where
  assoc : (a b c : ℤ) → f (f a b) c ≡ f a (f b c)
  comm : (a b : ℤ) → f a b ≡ f b a
  idem : (a : ℤ) → f a a ≡ a

least_picks : Picks int_min
least_picks = record { assoc = λ a b c. omega (arith, ints, clamps); comm = λ a b. omega (arith, ints, clamps); idem = λ a. omega (arith, ints, clamps) }

greatest_picks : Picks int_max
greatest_picks = record { assoc = λ a b c. omega (arith, ints, clamps); comm = λ a b. omega (arith, ints, clamps); idem = λ a. omega (arith, ints, clamps) }

module _ (f : ℤ → ℤ → ℤ) (P : Picks f) {X : Type 0} (v : X → ℤ) where
  abbrev from : ℤ → List X → ℤ
  from z xs = fold (λ a x. f a (v x)) z xs

  -- s counts for more than z: their pick is s
  over_trans : (s a b : ℤ) → f s a ≡ s → f a b ≡ a → f s b ≡ s
  over_trans s a b p q = ap (λ (t : ℤ). f t b) (sym p) ∙ P.assoc s a b ∙ ap (f s) q ∙ p

  from_start : (xs : List X) (z : ℤ) → f (from z xs) z ≡ from z xs
  from_start [] z = P.idem z
  from_start (x ∷ xs) z =
      over_trans (from (f z (v x)) xs) (f z (v x)) z (from_start xs (f z (v x)))
      (P.comm (f z (v x)) z ∙ sym (P.assoc z z (v x)) ∙ ap (λ (t : ℤ). f t (v x)) (P.idem z))

  from_each : (xs : List X) (z : ℤ) (x : X) → Among xs x → f (from z xs) (v x) ≡ from z xs
  from_each [] z x i = absurd i
  from_each (y ∷ xs) z x (inl e) =
      over_trans (from (f z (v y)) xs) (f z (v y)) (v x) (from_start xs (f z (v y)))
      (ap (λ (w : X). f (f z (v y)) (v w)) e ∙ P.assoc z (v y) (v y) ∙ ap (f z) (P.idem (v y)))
  from_each (y ∷ xs) z x (inr i) = from_each xs (f z (v y)) x i

  from_best : (xs : List X) (z s : ℤ) → f s z ≡ s → ((x : X) → Among xs x → f s (v x) ≡ s) → f s (from z xs) ≡ s
  from_best [] z s p h = p
  from_best (x ∷ xs) z s p h = from_best xs (f z (v x)) s (sym (P.assoc s z (v x)) ∙ ap (λ (t : ℤ). f t (v x)) p ∙ h x (inl refl)) (λ y i. h y (inr i))

-- two lists with the same offsets have the same farthest one
module _ (f : ℤ → ℤ → ℤ) (P : Picks f) {X Y : Type 0} (v : X → ℤ) (w : Y → ℤ) (xs : List X) (ys : List Y) where
  farthest_over : ((y : Y) → Among ys y → (x : X) × Among xs x × (w y ≡ v x)) → f (farthest f v xs) (farthest f w ys) ≡ farthest f v xs
  farthest_over h =
      from_best f P w ys (pos 0) (farthest f v xs) (from_start f P v xs (pos 0))
      (λ y i. let k = h y i in ap (f (farthest f v xs)) k.2 ∙ from_each f P v xs (pos 0) k.0 k.1)

farthest_same : (f : ℤ → ℤ → ℤ) (P : Picks f) {X Y : Type 0} (v : X → ℤ) (w : Y → ℤ) (xs : List X) (ys : List Y) →
    ((x : X) → Among xs x → (y : Y) × Among ys y × (v x ≡ w y)) → ((y : Y) → Among ys y → (x : X) × Among xs x × (w y ≡ v x)) →
    farthest f v xs ≡ farthest f w ys
farthest_same f P v w xs ys h k =
    sym (farthest_over f P v w xs ys k) ∙ P.comm (farthest f v xs) (farthest f w ys) ∙ farthest_over f P w v ys xs h

pub northmost_same : {X Y : Type 0} (v : X → ℤ) (w : Y → ℤ) (xs : List X) (ys : List Y) →
    ((x : X) → Among xs x → (y : Y) × Among ys y × (v x ≡ w y)) → ((y : Y) → Among ys y → (x : X) × Among xs x × (w y ≡ v x)) →
    farthest int_min v xs ≡ farthest int_min w ys
northmost_same = farthest_same int_min least_picks

pub southmost_same : {X Y : Type 0} (v : X → ℤ) (w : Y → ℤ) (xs : List X) (ys : List Y) →
    ((x : X) → Among xs x → (y : Y) × Among ys y × (v x ≡ w y)) → ((y : Y) → Among ys y → (x : X) × Among xs x × (w y ≡ v x)) →
    farthest int_max v xs ≡ farthest int_max w ys
southmost_same = farthest_same int_max greatest_picks
