-- The hits in the rows before y are listed, and both rings have the lines before those that complete row y.
use Rattle.std.proofs.Common.{◌≡◌, ◌+◌, ◌-◌, ◌*◌, ◌≤◌, List, length}
use Rattle.cells.specs.Lattice.{dual}
use Rattle.masks.specs.Cost.{line_picks}
use Rattle.masks.specs.declared.point.Point.{Point}
use Rattle.sheets.specs.Sheet.{shown}
use Rattle.morphology.specs.declared.place.Place.{Place}
use Rattle.plans.specs.Plan.{Spells}
use Rattle.plans.specs.Shown.{lengths_of, chords_of}
use Rattle.filters.specs.Sweep.{Stands}
use Rattle.filters.specs.Find.{note}
use Rattle.filters.proofs.Hits.{HitsAbove}
use Rattle.filters.proofs.Courses.{Goes}
use Rattle.filters.proofs.find.scan.Given as goal

abbrev pub invariant-loop-y : goal.invariant-loop-y
invariant-loop-y g l =
    (length l.fore_table ≡ length l.initial.fore_table) ×
    (length l.back_table ≡ length l.initial.back_table) ×
    Goes g.H.Cell.Kind.means g.H.Cell.Kind.lattice.least l.fn.fore l.fn.size.width l.fore.course ×
    Goes g.H.Cell.Kind.means g.H.Cell.Kind.lattice.greatest l.fn.back l.fn.size.width l.back.course ×
    (l.hits ≤ l.y * 2048) ×
    (l.picks ≤ 2 * (30 * 64418) + l.y * (2 * (64418 + 2048 * 495))) ×
    (l.picks ≡ (l.fn.fore.rows - 1) * line_picks l.fn.size.width (lengths_of l.fn.fore) + l.y * (line_picks l.fn.size.width (lengths_of l.fn.fore) + l.fn.size.width * (length (chords_of l.fn.fore) - 1)) + ((l.fn.back.rows - 1) * line_picks l.fn.size.width (lengths_of l.fn.back) + l.y * (line_picks l.fn.size.width (lengths_of l.fn.back) + l.fn.size.width * (length (chords_of l.fn.back) - 1)))) ×
    Stands g.H.Cell.Kind.lattice g.H.Cell.Kind.means l.fore.course (g.H.Holder.sheet l.h) l.fore_table l.fore.slot (l.y + l.fore.course.plan.rows - 1) (l.fore.course.plan.rows - 1) ×
    Stands (dual g.H.Cell.Kind.lattice) g.H.Cell.Kind.means l.back.course (g.H.Holder.sheet l.h) l.back_table l.back.slot (l.y + l.back.course.plan.rows - 1) (l.back.course.plan.rows - 1) ×
    ((fores backs : List Point) → Spells l.fn.fore fores → Spells l.fn.back backs →
    (ps : List Place) × HitsAbove g.H.Cell.Kind.lattice fores backs (shown g.H.Cell.Kind.means (g.H.Holder.sheet l.h)) l.y ps × (l.hits ≡ length ps) × (l.places ≡ note 0 ps l.initial.places))
