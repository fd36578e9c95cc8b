-- The rows north of row y.
use Rattle.std.proofs.Common.{◌≡◌, ◌++◌, map}
use Rattle.std.specs.List.{range_with_len}
use Rattle.jobs.specs.Listings.{row}
use Rattle.jobs.specs.declared.line.Line.TheVariants.{Cells}
use Rattle.jobs.proofs.perform.add_rows.Given as goal

abbrev pub invariant-loop-y : goal.invariant-loop-y
invariant-loop-y g l = l.so_far.items ≡ l.initial.so_far.items ++ map (λ y. Cells l.kind (row g.H.Cell.Listed.listed (g.H.Holder.sheet l.holder) y)) (range_with_len 0 l.y)
