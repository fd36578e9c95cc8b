use Rattle.std.proofs.Common.{◌≡◌, ◌+◌, ◌-◌, take, sum_by}
use Rattle.masks.specs.Cost.{capped}
use Rattle.masks.proofs.cost.starts.Given as goal

-- the starts of the lengths passed
abbrev pub invariant-loop-a : goal.invariant-loop-a
invariant-loop-a l = l.sum ≡ capped (sum_by (λ a. l.width + 31 - a) (take l.a-index l.lengths))
