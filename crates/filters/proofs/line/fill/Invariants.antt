-- The cells passed are padding.
use Rattle.std.proofs.Common.{◌≡◌, ℕ, ◌<◌}
use Rattle.filters.specs.Side.{cell_at}
use Rattle.filters.proofs.line.fill.Given as goal

abbrev pub invariant-loop-cell : goal.invariant-loop-cell
invariant-loop-cell g l = (z : g.K.Kind.Cell) (i : ℕ) → i < l.cell-index → cell_at g.K.Kind.means z l.cells i ≡ g.K.Kind.means l.pad
