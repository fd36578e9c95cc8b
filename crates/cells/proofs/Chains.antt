-- Stored numbers and the picks of their chain: `clamped z` is the cell that the number z is stored for.
use Rattle.std.proofs.Common.{◌≡◌, Bool, true, false, cond, ℤ, ◌≤ℤ◌, ◌<ℤ◌, pos, ℕ, Decides, Ordering, ap, ◌∙◌, inl, inr, arith}
use Rattle.std.specs.Ordering.{is_lt, is_gt, nat_cmp, int_cmp, ord_min, ord_max}
use Rattle.std.proofs.lemmas.Bool.Decides.{nat_tests}
use lib.Signed.{lt_z}
use Rattle.std.proofs.lemmas.Int.{ints, clamps, by_lt_z}
use Rattle.cells.specs.Lattice.{Under, Above, Comparable}
use Rattle.cells.specs.Levels.{OrderedBy}
use Rattle.cells.specs.Chain.{Within, clamped, smaller, larger, chain, same_number}

-- the orders of the library, as tests
pub nat_less : (m n : ℕ) → is_lt (nat_cmp m n) ≡ lt_z (pos m) (pos n)
nat_less m n = grind (arith, ints, nat_tests)

pub nat_greater : (m n : ℕ) → is_gt (nat_cmp m n) ≡ lt_z (pos n) (pos m)
nat_greater m n = grind (arith, ints, nat_tests)

pub int_less : (z w : ℤ) → is_lt (int_cmp z w) ≡ lt_z z w
int_less z w = grind (arith, ints)

pub int_greater : (z w : ℤ) → is_gt (int_cmp z w) ≡ lt_z w z
int_greater z w = grind (arith, ints)

module _ {lo hi : ℤ} (h : lo ≤ℤ hi) where
  -- the pick is the stored number that is less, or the one that is greater
  pub smaller_first : (z w : ℤ) → z ≤ℤ w → clamped lo hi h z ≡ smaller (clamped lo hi h z) (clamped lo hi h w)
  smaller_first z w e = same_number _ _ (omega (arith, ints, clamps))

  pub smaller_second : (z w : ℤ) → w ≤ℤ z → clamped lo hi h w ≡ smaller (clamped lo hi h z) (clamped lo hi h w)
  smaller_second z w e = same_number _ _ (omega (arith, ints, clamps))

  pub larger_first : (z w : ℤ) → w ≤ℤ z → clamped lo hi h z ≡ larger (clamped lo hi h z) (clamped lo hi h w)
  larger_first z w e = same_number _ _ (omega (arith, ints, clamps))

  pub larger_second : (z w : ℤ) → z ≤ℤ w → clamped lo hi h w ≡ larger (clamped lo hi h z) (clamped lo hi h w)
  larger_second z w e = same_number _ _ (omega (arith, ints, clamps))

  -- an order of what is stored, which is that of the stored numbers, chooses the picks
  module _ {S : Type 0} (stored : S → ℤ) (order : S → S → Ordering) (agrees : (a b : S) → is_lt (order a b) ≡ lt_z (stored a) (stored b)) where
    pub smaller_least : (a b r : S) → r ≡ ord_min order a b → clamped lo hi h (stored r) ≡ smaller (clamped lo hi h (stored a)) (clamped lo hi h (stored b))
    smaller_least a b r e = ap (λ s. clamped lo hi h (stored s)) e ∙ chosen (is_lt (order b a)) (agrees b a) where
      chosen : (t : Bool) → t ≡ lt_z (stored b) (stored a) → clamped lo hi h (stored (cond t b a)) ≡ smaller (clamped lo hi h (stored a)) (clamped lo hi h (stored b))
      chosen true f = smaller_second (stored a) (stored b) (grind (arith, ints, f))
      chosen false f = smaller_first (stored a) (stored b) (grind (arith, ints, f))

    pub larger_greatest : (a b r : S) → r ≡ ord_max order a b → clamped lo hi h (stored r) ≡ larger (clamped lo hi h (stored a)) (clamped lo hi h (stored b))
    larger_greatest a b r e = ap (λ s. clamped lo hi h (stored s)) e ∙ chosen (is_lt (order b a)) (agrees b a) where
      chosen : (t : Bool) → t ≡ lt_z (stored b) (stored a) → clamped lo hi h (stored (cond t a b)) ≡ larger (clamped lo hi h (stored a)) (clamped lo hi h (stored b))
      chosen true f = larger_first (stored a) (stored b) (grind (arith, ints, f))
      chosen false f = larger_second (stored a) (stored b) (grind (arith, ints, f))

  under_number : (a b : Within lo hi) → Under (chain lo hi h) a b → a.number ≤ℤ b.number
  under_number a b u = let e = ap (λ c. c.number) u in omega (arith, ints, clamps)

  number_under : (a b : Within lo hi) → a.number ≤ℤ b.number → Under (chain lo hi h) a b
  number_under a b e = same_number _ _ (omega (arith, ints, clamps))

  number_above : (a b : Within lo hi) → b.number <ℤ a.number → Above (chain lo hi h) a b
  number_above a b e = (number_under b a (omega (arith, ints)), λ s. let n = ap (λ c. c.number) s in omega (arith, ints))

  above_number : (a b : Within lo hi) → Above (chain lo hi h) a b → b.number <ℤ a.number
  above_number a b u =
      by_lt_z b.number a.number (λ l. l)
      (λ l. absurd (u.1 (same_number a b (let g = under_number b a u.0 in omega (arith, ints)))))

  pub comparable : Comparable (chain lo hi h)
  comparable a b n =
      by_lt_z b.number a.number (λ l. inl (number_above a b l))
      (λ l. by_lt_z a.number b.number (λ m. inr (number_above b a m)) (λ m. absurd (n (same_number a b (omega (arith, ints))))))

  -- the test of two numbers of the chain decides which cell is strictly above
  pub above_decides : (z w : ℤ) → lo ≤ℤ z → z ≤ℤ hi → lo ≤ℤ w → w ≤ℤ hi → Decides (lt_z w z) (Above (chain lo hi h) (clamped lo hi h z) (clamped lo hi h w))
  above_decides z w a b c d = (
    λ t. let l : w <ℤ z = grind (arith, ints) in number_above (clamped lo hi h z) (clamped lo hi h w) (omega (arith, ints, clamps)),
    λ u. let l = above_number (clamped lo hi h z) (clamped lo hi h w) u in let m : w <ℤ z = omega (arith, ints, clamps) in grind (arith, ints),
  )

  -- what is stored as a number is ordered by it
  pub ordered : {S : Type 0} (stored : S → ℤ) → OrderedBy (chain lo hi h) (λ s. clamped lo hi h (stored s)) (λ s. (clamped lo hi h (stored s)).number)
  ordered stored a b = (under_number (clamped lo hi h (stored a)) (clamped lo hi h (stored b)), number_under (clamped lo hi h (stored a)) (clamped lo hi h (stored b)))
