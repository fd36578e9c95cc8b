-- What the chain of whole numbers rests on: the bounds that the smaller and the larger of two keep, and their laws.
--     min_low, min_high, max_low, max_high    the bounds of both
--     clamped_low, clamped_high               a number that is held between two bounds lies there
--     min_assoc .. max_bound                  the laws of a lattice, each by its left side
use Rattle.std.proofs.Common.{◌≡◌, ℤ, ◌≤ℤ◌, arith}
use Rattle.std.specs.Int.{int_min, int_max}
use Rattle.std.proofs.lemmas.Int.{ints, clamps}

-- the smaller is above what lies below both, and the larger below what lies above both
pub min_low : {lo : ℤ} (a b : ℤ) → lo ≤ℤ a → lo ≤ℤ b → lo ≤ℤ int_min a b
min_low a b p q = omega (arith, ints, clamps)

pub max_high : {hi : ℤ} (a b : ℤ) → a ≤ℤ hi → b ≤ℤ hi → int_max a b ≤ℤ hi
max_high a b p q = omega (arith, ints, clamps)

-- and each keeps the other bound of the first
pub min_high : {hi : ℤ} (a b : ℤ) → a ≤ℤ hi → int_min a b ≤ℤ hi
min_high a b p = omega (arith, ints, clamps)

pub max_low : {lo : ℤ} (a b : ℤ) → lo ≤ℤ a → lo ≤ℤ int_max a b
max_low a b p = omega (arith, ints, clamps)

-- a number that is held below the upper bound, and then above the lower
pub clamped_low : (lo hi z : ℤ) → lo ≤ℤ int_max lo (int_min z hi)
clamped_low lo hi z = omega (arith, ints, clamps)

pub clamped_high : (lo hi z : ℤ) → lo ≤ℤ hi → int_max lo (int_min z hi) ≤ℤ hi
clamped_high lo hi z h = omega (arith, ints, clamps)

pub min_assoc : (a b c : ℤ) → int_min (int_min a b) c ≡ int_min a (int_min b c)
min_assoc a b c = omega (arith, ints, clamps)

pub min_comm : (a b : ℤ) → int_min a b ≡ int_min b a
min_comm a b = omega (arith, ints, clamps)

pub min_idem : (a : ℤ) → int_min a a ≡ a
min_idem a = omega (arith, ints, clamps)

pub max_assoc : (a b c : ℤ) → int_max (int_max a b) c ≡ int_max a (int_max b c)
max_assoc a b c = omega (arith, ints, clamps)

pub max_comm : (a b : ℤ) → int_max a b ≡ int_max b a
max_comm a b = omega (arith, ints, clamps)

pub max_idem : (a : ℤ) → int_max a a ≡ a
max_idem a = omega (arith, ints, clamps)

pub min_max : (a b : ℤ) → int_min a (int_max a b) ≡ a
min_max a b = omega (arith, ints, clamps)

pub max_min : (a b : ℤ) → int_max a (int_min a b) ≡ a
max_min a b = omega (arith, ints, clamps)

-- the smaller of a number and a bound above it, the larger of it and a bound below it
pub min_bound : (a hi : ℤ) → a ≤ℤ hi → int_min a hi ≡ a
min_bound a hi h = omega (arith, ints, clamps)

pub max_bound : (a lo : ℤ) → lo ≤ℤ a → int_max a lo ≡ a
max_bound a lo h = omega (arith, ints, clamps)
