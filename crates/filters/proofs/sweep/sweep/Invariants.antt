-- The rows before y are results, and the lines before the one that completes row y stand in the ring.
use Rattle.std.proofs.Common.{◌≡◌, ◌+◌, ◌-◌, ◌*◌, ◌≤◌, length}
use Rattle.masks.specs.Cost.{line_picks}
use Rattle.plans.specs.Shown.{lengths_of, chords_of}
use Rattle.filters.specs.Side.{side}
use Rattle.filters.specs.Sweep.{Stands}
use Rattle.filters.proofs.Courses.{Goes}
use Rattle.filters.proofs.sweep.sweep.Given as goal
use Rattle.filters.proofs.Rings.{Mixed}

abbrev pub invariant-loop-y : goal.invariant-loop-y
invariant-loop-y g l =
    (l.picks ≤ 30 * 64418 + l.y * (64418 + 2048 * 495)) ×
    (l.picks ≡ (l.fn.plan.rows - 1) * line_picks l.fn.size.width (lengths_of l.fn.plan) + l.y * (line_picks l.fn.size.width (lengths_of l.fn.plan) + l.fn.size.width * (length (chords_of l.fn.plan) - 1))) ×
    Goes g.H.Cell.Kind.means (side g.S.Side.lower g.H.Cell.Kind.lattice).greatest l.fn.plan l.fn.size.width l.ring.course ×
    Mixed (side g.S.Side.lower g.H.Cell.Kind.lattice) g.H.Cell.Kind.means l.fn.plan l.fn.size.width (g.H.Holder.sheet l.initial.h) (g.H.Holder.sheet l.h) l.y ×
    Stands (side g.S.Side.lower g.H.Cell.Kind.lattice) g.H.Cell.Kind.means l.ring.course (g.H.Holder.sheet l.initial.h) l.table l.ring.slot (l.y + l.ring.course.plan.rows - 1) (l.ring.course.plan.rows - 1)
