use Rattle.std.proofs.Common.{◌≡◌, ◌≤◌, length, take}
use Rattle.masks.specs.Lengths.{rising}
use Rattle.masks.proofs.lengths.rising.Given as goal

-- the listed numbers up to i stand in the list
abbrev pub invariant-loop-i : goal.invariant-loop-i
invariant-loop-i l = (length l.list ≡ 31) × (l.count ≤ l.i) × (take l.count l.list ≡ rising l.ticks l.i)
