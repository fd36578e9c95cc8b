use Rattle.std.proofs.Common.{◌≡◌, ◌≤◌, length}
use Rattle.masks.proofs.Halving.{halved_down}
use Rattle.masks.proofs.lengths.halved.Given as goal

-- the rule was applied from 31 down to the number passed last
abbrev pub invariant-loop-a : goal.invariant-loop-a
invariant-loop-a l = (length l.ticks ≡ 32) × (l.ticks ≡ halved_down l.initial.ticks l.a) × (2 ≤ l.a)
