-- A byte is the sum of what its bits are worth.
use Rattle.std.proofs.Common.{◌≡◌, ℕ, ◌*◌, ◌/◌, ◌%◌, ◌^◌, ◌<◌, cond, eqb, arith}
use Rattle.std.proofs.lemmas.Bool.Decides.{nat_tests}
use Rattle.cells.specs.Kinds.{marks_of}
use Rattle.jobs.specs.Words.{flags_listed}

-- what a bit is worth
worth : (n w : ℕ) → cond (eqb (n % 2) 1) w 0 ≡ w * (n % 2)
worth n w = grind (arith, nat_tests)

pub byte_listed : (n : ℕ) → n < 2 ^ 8 → flags_listed (marks_of n) ≡ n
byte_listed n h = omega (arith, worth (n / 1) 1, worth (n / 2) 2, worth (n / 4) 4, worth (n / 8) 8, worth (n / 16) 16, worth (n / 32) 32, worth (n / 64) 64, worth (n / 128) 128)
