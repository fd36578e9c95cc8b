-- The chord lies within the table's slots, lengths and columns.
use Rattle.std.proofs.Common.{◌+◌, length, ap, arith}
use Rattle.plans.specs.Shown.{lengths_of}
use Rattle.filters.proofs.Rooms.{run_room}
use Rattle.filters.proofs.ring.Ring.base.Goals as goal

pub returns-clause-room : goal.returns-clause-room
returns-clause-room g c =
    let p = c.args.self.now.course.plan in
    let chord = c.requires in
    let n = ap length c.as_slice.ensures.items in
    rw (c.stride.ensures, n) (omega (arith, run_room c.slot_of.result p.rows (length (lengths_of p)) c.args.c.index (c.args.self.now.course.width + 30) c.args.c.column c.slot_of.ensures.below chord.index chord.column))
