use Rattle.std.proofs.Common.{◌≡◌, ◌≤◌, length}
use Rattle.masks.specs.Rows.{columns}
use Rattle.masks.proofs.mask.Mask.row_count.Given as goal

-- the columns that the loop has passed are counted
abbrev pub invariant-loop-c : goal.invariant-loop-c
invariant-loop-c l = (l.n ≡ length (columns l.self.rows l.r l.c)) × (l.n ≤ l.c)
