-- Single bits of a number: bit i is worth 2 ^ i.
use Rattle.std.specs.Prelude.{ℕ, ◌/◌, ◌%◌, ◌^◌, Bool, ◌==◌, bit_or}

-- whether bit i of n is 1
abbrev pub bit : ℕ → ℕ → Bool
bit i n = n / 2 ^ i % 2 == 1

-- n with bit i at 1
abbrev pub with_bit : ℕ → ℕ → ℕ
with_bit i n = bit_or n (2 ^ i)
