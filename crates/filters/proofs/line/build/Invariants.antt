-- The runs of the lengths passed, and of the one after them, are made, from the single cells that the line had at the start.
use Rattle.std.proofs.Common.{◌≡◌, ◌+◌, ◌*◌, ◌≤◌, length, take}
use Rattle.cells.specs.Lattice.{Under}
use Rattle.masks.specs.Cost.{line_picks}
use Rattle.plans.specs.Shown.{lengths_of}
use Rattle.filters.specs.Side.{side}
use Rattle.filters.specs.Line.{entry, Runs}
use Rattle.filters.proofs.line.build.Given as goal

abbrev pub invariant-loop-i : goal.invariant-loop-i
invariant-loop-i g l =
    (l.picks ≤ (length l.yielded + 1) * 2078) ×
    (l.picks ≡ line_picks l.course.width (take (length l.yielded + 1) (lengths_of l.course.plan))) ×
    Runs (side g.S.Side.lower g.K.Kind.lattice) g.K.Kind.means (λ x a. Under (side g.S.Side.lower g.K.Kind.lattice) a (entry (side g.S.Side.lower g.K.Kind.lattice) g.K.Kind.means l.initial.lines x)) l.course.plan l.course.width l.lines 0 (length l.yielded + 1)
