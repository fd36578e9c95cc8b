use Rattle.std.proofs.Common.{◌≡◌, length, take}
use Rattle.masks.specs.Rows.{Drawn}
use Rattle.masks.proofs.mask.drawn.Given as goal

-- the rows have just the points that the loop has passed
abbrev pub invariant-loop-p : goal.invariant-loop-p
invariant-loop-p l = (length l.rows ≡ 31) × Drawn l.rows (take l.p-index l.list)
