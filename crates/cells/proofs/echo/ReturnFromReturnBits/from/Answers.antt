-- Counted bits are a number's, and a float made of them has them.
use Rattle.std.proofs.Common.{◌≡◌, ℕ, ◌^◌, false, not, T, sym, ap, ◌∙◌, subst}
use lib.Ieee.{binary32, is_nan, nan_bits, of_bits, to_bits}
use Rattle.cells.proofs.Echoes.{counted_number, counted_is_number, counted_back, counted_unsigned}
use Rattle.cells.proofs.echo.ReturnFromReturnBits.from.Goals as goal

pub float_from_bits-result : goal.float_from_bits-result
float_from_bits-result c = subst (λ (n : ℕ). T (not (nan_bits binary32 n))) (sym c.counted_bits.ensures) (counted_number c.args.bits.0)

pub invariant_of-result : goal.invariant_of-result
invariant_of-result c =
    let b = c.args.bits.0 in
    let e = c.counted_bits.ensures in
    record {
      number = subst (λ (n : ℕ). is_nan (of_bits binary32 n) ≡ false) (sym e) (counted_is_number b);
      unsigned = subst (λ (n : ℕ). to_bits binary32 (of_bits binary32 n) ≡ 2 ^ 31 → ⊥) (sym e) (λ q. counted_unsigned b (sym (counted_back b) ∙ q));
    }

pub returns : goal.returns
returns c = ap (λ (n : ℕ). to_bits binary32 (of_bits binary32 n)) c.counted_bits.ensures ∙ counted_back c.args.bits.0
