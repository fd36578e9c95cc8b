-- The lines that are taken lie in the slot that is due.
use borrow.Rule.Slice.PartMut.{put_mid}
use Rattle.std.proofs.Common.{◌≡◌, ℕ, ◌+◌, ◌-◌, ◌*◌, ◌≤◌, length, subst, arith, rules}
use Rattle.std.proofs.lemmas.List.{places}
use Rattle.plans.specs.Shown.{lengths_of}
use Rattle.filters.specs.Side.{side}
use Rattle.filters.specs.Line.{Holds, Beside}
use Rattle.filters.proofs.Entries.{beside_part}
use Rattle.filters.proofs.Lines.{holds_part}
use Rattle.filters.proofs.Rooms.{slot_room}
use Rattle.filters.proofs.ring.Ring.take.Goals as goal

pub offset_bounds-table-start : goal.offset_bounds-table-start
offset_bounds-table-start g c =
    let r = c.args.self.now in
    let p = r.course.plan in
    let room : c.start-start.result + c.slot_cells.result ≤ length c.args.table.now =
    omega (arith, c.start-start.ensures, c.slot_cells.ensures, c.requires, slot_room r.slot p.rows (length (lengths_of p)) (r.course.width + 30) r.due) in
    search rules

pub returns-clause-holds : goal.returns-clause-holds
returns-clause-holds g c =
    let course = c.args.self.now.course in
    let old = c.args.table.now in
    let lines = c.take_line-picks.new.lines in
    let n = c.start-start.result + c.slot_cells.result - c.start-start.result in
    let new = put_mid c.start-start.result n old lines in
    let k = side g.S.Side.lower g.K.Kind.lattice in
    let room = slot_room c.args.self.now.slot course.plan.rows (length (lengths_of course.plan)) (course.width + 30) c.args.self.now.due in
    let long : length lines ≡ length (lengths_of course.plan) * (course.width + 30) = search (rules, places) in
    subst (λ (at : ℕ). Holds k g.K.Kind.means (g.K.Kind.means course.pad) (g.H.Holder.sheet c.args.h.now) course.plan course.width new at c.args.line) c.start-start.ensures
    (holds_part k g.K.Kind.means (g.K.Kind.means course.pad) (g.H.Holder.sheet c.args.h.now) course.plan course.width old lines c.start-start.result c.args.line n (omega (arith, room, c.requires, c.start-start.ensures)) long c.take_line-picks.ensures.holds)

pub returns-clause-beside : goal.returns-clause-beside
returns-clause-beside g c =
    let course = c.args.self.now.course in
    let old = c.args.table.now in
    let lines = c.take_line-picks.new.lines in
    let n = c.start-start.result + c.slot_cells.result - c.start-start.result in
    let new = put_mid c.start-start.result n old lines in
    let room = slot_room c.args.self.now.slot course.plan.rows (length (lengths_of course.plan)) (course.width + 30) c.args.self.now.due in
    let long : length lines ≡ n = search (rules, places) in
    let end : c.start-start.result + n ≡ c.args.self.now.slot * length (lengths_of course.plan) * (course.width + 30) + length (lengths_of course.plan) * (course.width + 30) = omega (arith, c.start-start.ensures, c.slot_cells.ensures) in
    subst (λ (at : ℕ). Beside g.K.Kind.means old new at (c.args.self.now.slot * length (lengths_of course.plan) * (course.width + 30) + length (lengths_of course.plan) * (course.width + 30))) c.start-start.ensures
    (subst (λ (b : ℕ). Beside g.K.Kind.means old new c.start-start.result b) end
    (beside_part g.K.Kind.means c.start-start.result n old lines (omega (arith, room, c.requires, c.start-start.ensures)) long))
