-- The marks of the bytes 0 and 255.
use Rattle.std.proofs.Common.{◌≡◌, ℕ, zero, suc, ◌<◌, true, refl, arith}
use mathlib.Core.Path.{fun_ext}
use Rattle.bits.specs.Bit.{bit}
use Rattle.bits.proofs.SingleBits.{bit_zero}
use Rattle.cells.specs.Kinds.{marks, marks_of}

bit_255 : (i : ℕ) → i < 8 → bit i 255 ≡ true
bit_255 zero h = refl
bit_255 (suc zero) h = refl
bit_255 (suc (suc zero)) h = refl
bit_255 (suc (suc (suc zero))) h = refl
bit_255 (suc (suc (suc (suc zero)))) h = refl
bit_255 (suc (suc (suc (suc (suc zero))))) h = refl
bit_255 (suc (suc (suc (suc (suc (suc zero)))))) h = refl
bit_255 (suc (suc (suc (suc (suc (suc (suc zero))))))) h = refl
bit_255 (suc (suc (suc (suc (suc (suc (suc (suc i)))))))) h = absurd (omega arith)

-- the byte 0 has no mark, the byte 255 has all
pub no_marks : marks_of 0 ≡ marks.least
no_marks = fun_ext (λ m. bit_zero m.0)

pub all_marks : marks_of 255 ≡ marks.greatest
all_marks = fun_ext (λ m. bit_255 m.0 m.1)
