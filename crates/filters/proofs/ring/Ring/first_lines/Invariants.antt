-- The lines before `line` stand in the slots of their numbers.
use Rattle.std.proofs.Common.{◌≡◌, ◌*◌, ◌≤◌}
use Rattle.masks.specs.Cost.{line_picks}
use Rattle.plans.specs.Shown.{lengths_of}
use Rattle.filters.specs.Side.{side}
use Rattle.filters.specs.Sweep.{Stands}
use Rattle.filters.proofs.ring.Ring.first_lines.Given as goal

abbrev pub invariant-loop-line : goal.invariant-loop-line
invariant-loop-line g l =
    (l.picks ≤ l.line * 64418) ×
    (l.picks ≡ l.line * line_picks l.initial.self.course.width (lengths_of l.initial.self.course.plan)) ×
    (l.self.course ≡ l.initial.self.course) ×
    (l.self.slot ≡ l.line) ×
    Stands (side g.S.Side.lower g.K.Kind.lattice) g.K.Kind.means l.self.course (g.H.Holder.sheet l.h) l.table l.line l.line l.line
