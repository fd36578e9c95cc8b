use Rattle.std.proofs.Common.{◌≡◌, ℕ, ◌-◌, ◌<◌, length, get_or}
use Rattle.bits.specs.Bit.{bit}
use Rattle.masks.proofs.mask.Mask.turned.Given as goal

-- the rows that the loop has passed are turned
abbrev pub invariant-loop-r : goal.invariant-loop-r
invariant-loop-r l = (length l.rows ≡ 31) ×
    ((r : ℕ) → r < l.r → (c : ℕ) → c < 31 → bit c (get_or l.rows r 0) ≡ bit (30 - c) (get_or l.self.rows (30 - r) 0))
