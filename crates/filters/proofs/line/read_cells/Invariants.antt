-- The cells passed are those of the row.
use Rattle.std.proofs.Common.{◌≡◌, ℕ, ◌+◌, ◌<◌}
use Rattle.filters.specs.Side.{cell_at}
use Rattle.filters.specs.Line.{or_else}
use Rattle.filters.proofs.line.read_cells.Given as goal

abbrev pub invariant-loop-i : goal.invariant-loop-i
invariant-loop-i g l =
    (z : g.H.Cell.Kind.Cell) (i : ℕ) → i < l.i → cell_at g.H.Cell.Kind.means z l.cells i ≡ or_else g.H.Cell.Kind.means (g.H.Cell.Kind.means l.pad) ((g.H.Holder.sheet l.h).cell (l.from + i) l.y)
