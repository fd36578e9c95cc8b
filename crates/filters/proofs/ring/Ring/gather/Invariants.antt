-- The array has the first chord's run; then the pick of the chords passed; then the slot has it, too.
use Rattle.std.proofs.Common.{◌≡◌, ℕ, ◌+◌, ◌*◌, ◌<◌, ◌≤◌, length}
use Rattle.filters.specs.Side.{side, cell_at}
use Rattle.filters.specs.Line.{Beside}
use Rattle.filters.specs.Row.{run_of, picked}
use Rattle.filters.proofs.ring.Ring.gather.Given as goal

abbrev pub invariant-loop-i : goal.invariant-loop-i
invariant-loop-i g l =
    (length l.row ≡ 2048) ×
    ((z : g.K.Kind.Cell) (x : ℕ) → x < l.i → cell_at g.K.Kind.means z l.row x ≡ run_of g.K.Kind.means z l.table l.self.course.plan (l.self.course.width + 30) l.self.slot x 0)

abbrev pub invariant-loop-four : goal.invariant-loop-four
invariant-loop-four g l =
    (length l.row ≡ 2048) ×
    (l.picks ≡ l.self.course.width * (l.four * 4)) ×
    ((z : g.K.Kind.Cell) (x : ℕ) → x < l.self.course.width → cell_at g.K.Kind.means z l.row x ≡ picked (side g.S.Side.lower g.K.Kind.lattice) (run_of g.K.Kind.means z l.table l.self.course.plan (l.self.course.width + 30) l.self.slot x) (l.four * 4))

abbrev pub invariant-loop-x : goal.invariant-loop-x
invariant-loop-x g l =
    (length l.row ≡ 2048) ×
    (l.picks ≡ l.self.course.width * (l.four * 4) + l.x * 4) ×
    ((z : g.K.Kind.Cell) (x : ℕ) → x < l.x → cell_at g.K.Kind.means z l.row x ≡ picked (side g.S.Side.lower g.K.Kind.lattice) (run_of g.K.Kind.means z l.table l.self.course.plan (l.self.course.width + 30) l.self.slot x) (l.four * 4 + 4)) ×
    ((z : g.K.Kind.Cell) (x : ℕ) → l.x ≤ x → x < l.self.course.width → cell_at g.K.Kind.means z l.row x ≡ picked (side g.S.Side.lower g.K.Kind.lattice) (run_of g.K.Kind.means z l.table l.self.course.plan (l.self.course.width + 30) l.self.slot x) (l.four * 4))

abbrev pub invariant-loop-chord : goal.invariant-loop-chord
invariant-loop-chord g l =
    (length l.row ≡ 2048) ×
    (l.picks ≡ l.self.course.width * (l.last + l.chord-index)) ×
    ((z : g.K.Kind.Cell) (x : ℕ) → x < l.self.course.width → cell_at g.K.Kind.means z l.row x ≡ picked (side g.S.Side.lower g.K.Kind.lattice) (run_of g.K.Kind.means z l.table l.self.course.plan (l.self.course.width + 30) l.self.slot x) (l.last + l.chord-index))

abbrev pub invariant-loop-x-2 : goal.invariant-loop-x-2
invariant-loop-x-2 g l =
    (length l.row ≡ 2048) ×
    (l.picks ≡ l.self.course.width * (l.last + l.chord-index) + l.x) ×
    ((z : g.K.Kind.Cell) (x : ℕ) → x < l.x → cell_at g.K.Kind.means z l.row x ≡ picked (side g.S.Side.lower g.K.Kind.lattice) (run_of g.K.Kind.means z l.table l.self.course.plan (l.self.course.width + 30) l.self.slot x) (l.last + l.chord-index + 1)) ×
    ((z : g.K.Kind.Cell) (x : ℕ) → l.x ≤ x → x < l.self.course.width → cell_at g.K.Kind.means z l.row x ≡ picked (side g.S.Side.lower g.K.Kind.lattice) (run_of g.K.Kind.means z l.table l.self.course.plan (l.self.course.width + 30) l.self.slot x) (l.last + l.chord-index))

abbrev pub invariant-loop-c : goal.invariant-loop-c
invariant-loop-c g l =
    ((z : g.K.Kind.Cell) (x : ℕ) → x < l.c → cell_at g.K.Kind.means z l.table (l.start + x) ≡ cell_at g.K.Kind.means z l.row x) ×
    Beside g.K.Kind.means l.initial.table l.table l.start (l.start + l.c)
