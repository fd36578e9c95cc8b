-- A single bit of a number that was made from others bit by bit.
use Rattle.std.proofs.Common.{◌≡◌, ℕ, zero, suc, ◌+◌, ◌-◌, ◌*◌, ◌/◌, ◌%◌, ◌^◌, ◌<◌, Bool, true, false, ◌&&◌, ◌||◌, eqb, ◌⊎◌, sym, refl, ap, ◌∙◌, inl, inr, arith}
use native.Mathlib.Nat.{zero-div, div-eq_of_lt}
use lib.Bits.{bit_and, bit_or, and_shr, or_shr, and_mod, or_mod}
use Rattle.std.proofs.lemmas.Nat.{pow_below, pow-add, shl-shr}
use Rattle.std.proofs.lemmas.Bool.{cases_order, eq-eqb, ne_eqb}
use Rattle.bits.specs.Bit.{bit, with_bit}

-- two numbers that are single bits, taken together as two yes or no are
single : (f : ℕ → ℕ → ℕ) (g : Bool → Bool → Bool) → eqb (f 0 0) 1 ≡ g false false → eqb (f 0 1) 1 ≡ g false true → eqb (f 1 0) 1 ≡ g true false → eqb (f 1 1) 1 ≡ g true true →
    (x y : ℕ) → x < 2 → y < 2 → eqb (f x y) 1 ≡ g (eqb x 1) (eqb y 1)
single f g p q r s zero zero h l = p
single f g p q r s zero (suc zero) h l = q
single f g p q r s (suc zero) zero h l = r
single f g p q r s (suc zero) (suc zero) h l = s
single f g p q r s x (suc (suc y)) h l = absurd (omega arith)
single f g p q r s (suc (suc x)) y h l = absurd (omega arith)

-- a bit of `a & b`, and of `a | b`
pub bit_of_and : (i a b : ℕ) → bit i (bit_and a b) ≡ (bit i a && bit i b)
bit_of_and i a b =
    ap (λ (n : ℕ). eqb (n % 2) 1) (and_shr a b i)
    ∙ ap (λ (n : ℕ). eqb n 1) (and_mod (a / 2 ^ i) (b / 2 ^ i) 1)
    ∙ single bit_and ◌&&◌ refl refl refl refl (a / 2 ^ i % 2) (b / 2 ^ i % 2) (omega arith) (omega arith)

pub bit_of_or : (i a b : ℕ) → bit i (bit_or a b) ≡ (bit i a || bit i b)
bit_of_or i a b =
    ap (λ (n : ℕ). eqb (n % 2) 1) (or_shr a b i)
    ∙ ap (λ (n : ℕ). eqb n 1) (or_mod (a / 2 ^ i) (b / 2 ^ i) 1)
    ∙ single bit_or ◌||◌ refl refl refl refl (a / 2 ^ i % 2) (b / 2 ^ i % 2) (omega arith) (omega arith)

-- no bit of 0 is 1
pub bit_zero : (i : ℕ) → bit i 0 ≡ false
bit_zero i = ap (λ (n : ℕ). eqb (n % 2) 1) (zero-div (2 ^ i))

-- nor is a bit beyond the number's last
pub bit_beyond : (i n : ℕ) → n < 2 ^ i → bit i n ≡ false
bit_beyond i n h = ap (λ (q : ℕ). eqb (q % 2) 1) (div-eq_of_lt h)

twice_even : (n : ℕ) → eqb (n * 2 % 2) 1 ≡ false
twice_even n = ne_eqb (n * 2 % 2) 1 (omega arith)

-- of a power of two one bit is 1
bit_power : (i k : ℕ) → bit i (2 ^ k) ≡ eqb i k
bit_power i k = go (cases_order i k)
  where
    same : i ≡ k → bit i (2 ^ k) ≡ eqb i k
    same e =
        let one : 2 ^ k ≡ 1 * 2 ^ k = omega arith in
        ap (λ (n : ℕ). bit n (2 ^ k)) e ∙ ap (λ (n : ℕ). bit k n) one ∙ ap (λ (n : ℕ). eqb (n % 2) 1) (shl-shr 1 k) ∙ sym (eq-eqb i k e)

    below : i < k → bit i (2 ^ k) ≡ eqb i k
    below h =
        let d : ℕ = k - i - 1 in
        let e : k ≡ d + 1 + i = omega arith in
        ap (λ (n : ℕ). bit i (2 ^ n)) e
        ∙ ap (λ (n : ℕ). bit i n) (pow-add 2 (d + 1) i)
        ∙ ap (λ (n : ℕ). eqb (n % 2) 1) (shl-shr (2 ^ (d + 1)) i ∙ pow-add 2 d 1)
        ∙ twice_even (2 ^ d)
        ∙ sym (ne_eqb i k (omega arith))

    above : k < i → bit i (2 ^ k) ≡ eqb i k
    above h = bit_beyond i (2 ^ k) (pow_below k i h) ∙ sym (ne_eqb i k (omega arith))

    go : (i ≡ k) ⊎ ((i < k) ⊎ (k < i)) → bit i (2 ^ k) ≡ eqb i k
    go (inl e) = same e
    go (inr (inl h)) = below h
    go (inr (inr h)) = above h

-- a bit of a number that was given bit k
pub bit_with_bit : (i k n : ℕ) → bit i (with_bit k n) ≡ (bit i n || eqb i k)
bit_with_bit i k n = bit_of_or i n (2 ^ k) ∙ ap (λ (b : Bool). bit i n || b) (bit_power i k)
