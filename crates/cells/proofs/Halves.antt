-- Half of a number, rounded down.
use Rattle.std.proofs.Common.{pos, negsuc, ℤ, ◌+ℤ◌, ◌≤ℤ◌, arith}
use Rattle.std.proofs.lemmas.Int.{ints}
use Rattle.cells.specs.Levels.{half_down}

-- twice the half is the number, or one less
pub half_low : (z : ℤ) → (half_down z +ℤ half_down z) ≤ℤ z
half_low (pos n) = omega (arith, ints)
half_low (negsuc n) = omega (arith, ints)

pub half_high : (z : ℤ) → z ≤ℤ (half_down z +ℤ half_down z +ℤ pos 1)
half_high (pos n) = omega (arith, ints)
half_high (negsuc n) = omega (arith, ints)
