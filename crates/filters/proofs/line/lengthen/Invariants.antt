-- The runs before x are made from entries that lie before `to`, which stay.
use Rattle.std.proofs.Common.{◌≡◌, ℕ, ◌+◌, ◌<◌}
use Rattle.filters.specs.Side.{side, cell_at}
use Rattle.filters.specs.Line.{Beside}
use Rattle.filters.proofs.line.lengthen.Given as goal

abbrev pub invariant-loop-x : goal.invariant-loop-x
invariant-loop-x g l =
    (l.picks ≡ l.x) ×
    ((z : g.K.Kind.Cell) (k : ℕ) → k < l.x → cell_at g.K.Kind.means z l.lines (l.to + k) ≡ (side g.S.Side.lower g.K.Kind.lattice).meet (cell_at g.K.Kind.means z l.initial.lines (l.from + k)) (cell_at g.K.Kind.means z l.initial.lines (l.from + k + l.d))) ×
    Beside g.K.Kind.means l.initial.lines l.lines l.to (l.to + l.x)
