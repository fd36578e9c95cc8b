-- Sums and products that stop at the largest number of 64 bits.
use Rattle.std.proofs.Common.{◌≡◌, ℕ, zero, suc, ◌+◌, ◌-◌, ◌*◌, ◌^◌, ◌≤◌, sym, ap, ◌∙◌, ap₂, inl, inr, mul_comm, mul-le-mul_left, mul-zero, arith}
use Rattle.std.proofs.lemmas.Bool.{cases_lt}
use Rattle.masks.specs.Cost.{capped}

pub cap_add : (a b : ℕ) → capped (capped a + capped b) ≡ capped (a + b)
cap_add a b = omega arith

-- a capped factor makes no difference: where it is capped, the product is too, unless the other factor is 0
pub cap_mul_left : (a b : ℕ) → capped (capped a * b) ≡ capped (a * b)
cap_mul_left a zero = ap capped (mul-zero (capped a) ∙ sym (mul-zero a))
cap_mul_left a (suc b) =
    elim (cases_lt a (2 ^ 64 - 1)) [
      | inl h ↦ let e : capped a ≡ a = omega arith in ap (λ (n : ℕ). capped (n * suc b)) e
      | inr h ↦
          let e : capped a ≡ 2 ^ 64 - 1 = omega arith in
          let low : 2 ^ 64 - 1 ≤ capped a * suc b = omega (arith, mul-le-mul_left (capped a) (one_le b)) in
          let high : 2 ^ 64 - 1 ≤ a * suc b = omega (arith, mul-le-mul_left a (one_le b)) in
          omega arith
    ]
  where
    one_le : (n : ℕ) → 1 ≤ suc n
    one_le n = omega arith

-- the sum of the picks, where the products of its parts were capped
pub cap_picks : (lines line area others : ℕ) → capped (capped (capped lines * line) + capped (capped area * others)) ≡ capped (lines * line + area * others)
cap_picks lines line area others = ap₂ (λ (a b : ℕ). capped (a + b)) (cap_mul_left lines line) (cap_mul_left area others) ∙ cap_add (lines * line) (area * others)

pub cap_line : (lines line rest : ℕ) → capped (lines * capped line + rest) ≡ capped (lines * line + rest)
cap_line lines line rest =
    sym (cap_add (lines * capped line) rest)
    ∙ ap (λ (n : ℕ). capped (n + capped rest)) (ap capped (mul_comm lines (capped line)) ∙ cap_mul_left line lines ∙ ap capped (mul_comm line lines))
    ∙ cap_add (lines * line) rest
