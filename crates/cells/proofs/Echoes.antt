-- The bits of returns: those that stored bits count as are a number's, and counting them again changes nothing.
use Rattle.std.proofs.Common.{◌≡◌, ℕ, ◌%◌, ◌^◌, ◌<◌, ◌≤◌, Bool, false, not, T, ◌⊎◌, ◌≤ℤ◌, sym, ap, ◌∙◌, subst, inl, inr, arith}
use lib.Ieee.{binary32, is_nan, nan_bits, of_bits, to_bits}
use lib.Ieee.Bits.{nan_bits_above, nan_bits_is, to_bits-of_bits}
use Rattle.std.proofs.lemmas.Int.{ints}
use Rattle.std.proofs.lemmas.Bool.Decides.{nat_tests}
use Rattle.cells.specs.Kinds.{rank, counted, return_bounds, return_cell}
use Rattle.cells.specs.Chain.{clamped}

-- counted bits are those of a number with or without its sign, and never the negative zero
pub counted_either : (b : ℕ) → (counted b ≤ 0x7f800000) ⊎ ((2 ^ 31 < counted b) × (counted b ≤ 0xff800000))
counted_either b = grind (arith, nat_tests)

pub counted_again : (b : ℕ) → counted (counted b) ≡ counted b
counted_again b = grind (arith, nat_tests, counted_either b)

pub counted_unsigned : (b : ℕ) → counted b ≡ 2 ^ 31 → ⊥
counted_unsigned b e = elim (counted_either b) [ inl l ↦ omega arith | inr l ↦ omega (arith, l.0) ]

pub counted_low : (b : ℕ) → rank 0xff800000 ≤ℤ rank (counted b)
counted_low b = grind (arith, ints, nat_tests, counted_either b)

pub counted_high : (b : ℕ) → rank (counted b) ≤ℤ rank 0x7f800000
counted_high b = grind (arith, ints, nat_tests, counted_either b)

counted_small : (b : ℕ) → counted b % 2 ^ 31 ≤ 0x7f800000
counted_small b = elim (counted_either b) [ inl l ↦ omega arith | inr l ↦ omega (arith, l.0, l.1) ]

counted_below : (b : ℕ) → counted b < 2 ^ 32
counted_below b = elim (counted_either b) [ inl l ↦ omega arith | inr l ↦ omega (arith, l.0, l.1) ]

-- they are no not-a-number's
nan_false : (b : ℕ) → nan_bits binary32 (counted b) ≡ false
nan_false b = let s = counted_small b in nan_bits_above binary32 (counted b) ∙ grind (arith, nat_tests)

false_not : (t : Bool) → t ≡ false → T (not t)
false_not t e = subst (λ (x : Bool). T (not x)) (sym e) tt

pub counted_number : (b : ℕ) → T (not (nan_bits binary32 (counted b)))
counted_number b = false_not (nan_bits binary32 (counted b)) (nan_false b)

pub counted_is_number : (b : ℕ) → is_nan (of_bits binary32 (counted b)) ≡ false
counted_is_number b = sym (nan_bits_is binary32 (counted b)) ∙ nan_false b

-- a float made of them has them as its bits
pub counted_back : (b : ℕ) → to_bits binary32 (of_bits binary32 (counted b)) ≡ counted b
counted_back b = to_bits-of_bits binary32 (counted b) (counted_below b) (false_not (is_nan (of_bits binary32 (counted b))) (counted_is_number b))

-- bits that are what b counts as mean the cell that b means
pub return_same : (b r : ℕ) → r ≡ counted b → return_cell r ≡ return_cell b
return_same b r e = ap return_cell e ∙ ap (λ (n : ℕ). clamped (rank 0xff800000) (rank 0x7f800000) return_bounds (rank n)) (counted_again b)

-- bits that rank no higher count as bits that rank no higher
pub counted_in_order : (a b : ℕ) → rank a ≤ℤ rank b → rank (counted a) ≤ℤ rank (counted b)
counted_in_order a b l = grind (arith, ints, nat_tests, l)
