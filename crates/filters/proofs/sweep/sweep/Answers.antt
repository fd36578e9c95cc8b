-- A row more is a result. When all rows are, the sheet is the erosion.
use Rattle.std.proofs.Common.{◌≡◌, ℕ, ◌+◌, ◌-◌, ◌*◌, ◌≤◌, length, Some, refl, sym, ap, ◌∙◌, subst, arith}
use Rattle.masks.specs.Cost.{line_picks}
use Rattle.plans.specs.Shown.{lengths_of, chords_of}
use Rattle.filters.specs.Side.{side}
use Rattle.filters.specs.Line.{entry}
use Rattle.filters.specs.declared.course.Course.{Course}
use Rattle.filters.proofs.Courses.{Goes, goes_same, first_picks, row_picks, laid_gathered, row_long, row_cell, stands_first, stands_next}
use Rattle.filters.proofs.Erosions.{mixed_eroded}
use Rattle.filters.proofs.Rooms.{times_more, rows_picks}
use Rattle.filters.proofs.Rings.{Mixed, mixed_more, row_has}
use Rattle.filters.proofs.sweep.sweep.Goals as goal

pub loop-y-init : goal.loop-y-init
loop-y-init g c =
    let k = side g.S.Side.lower g.H.Cell.Kind.lattice in
    let f = g.H.Cell.Kind.means in
    let s = g.H.Holder.sheet c.args.h.now in
    let p = c.args.plan in
    let w = c.args.size.width in
    let course = c.new-ring.result.course in
    let new = c.first_lines-picks.new.self in
    let table = c.first_lines-picks.new.table in
    let first = c.first_lines-picks.ensures in
    let made = c.new-ring.ensures in
    let G : Goes f k.greatest p w course = record { plan = made.plan; width = made.width; pad = ap f made.pad ∙ c.pad.ensures } in (
      omega (arith, first.few),
      omega (arith, first.picks, first_picks f k.greatest p w course G),
      goes_same f k.greatest p w new.course course first.course G,
      record { width = refl; height = refl; done = λ x j h l. absurd (omega arith); left = λ x j h. refl; beside = λ x j h. refl },
      stands_first k f s new.course course table new.slot first.course first.slot first.ring,
    )

pub put_row-requires : goal.put_row-requires
put_row-requires g c =
    let k = side g.S.Side.lower g.H.Cell.Kind.lattice in
    let f = g.H.Cell.Kind.means in
    let p = c.args.plan in
    let w = c.args.size.width in
    let s = g.H.Holder.sheet c.args.h.now in
    let t = g.H.Holder.sheet c.loop-y.h in
    let y = c.loop-y.y in
    let ew = c.requires.size.1.1.0 in
    let eh = c.requires.size.1.1.1 in
    let ring = c.next_row-picks.new.self in
    let G = goes_same f k.greatest p w ring.course c.loop-y.ring.course c.next_row-picks.ensures.course c.loop-y.invariant.2 in
    let M : Mixed k f p s.width s t y = subst (λ (n : ℕ). Mixed k f p n s t y) ew c.loop-y.invariant.3 in
    let long = row_long f k.greatest p w ring G c.next_row-picks.new.table c.row.result.now
    (omega (arith, c.requires.room, c.loop-y.auto.table, c.first_lines-picks.auto.table, c.next_row-picks.auto.table)) c.row.ensures in
    record { wide = M.width ∙ sym ew ∙ sym long; on = λ x h. row_has k f p s t y x c.requires.whole M (omega (arith, eh)) (omega (arith, long, ew)) }

pub loop-y-preserved : goal.loop-y-preserved
loop-y-preserved g c =
    let k = side g.S.Side.lower g.H.Cell.Kind.lattice in
    let f = g.H.Cell.Kind.means in
    let p = c.args.plan in
    let w = c.args.size.width in
    let course = c.loop-y.ring.course in
    let s = g.H.Holder.sheet c.args.h.now in
    let t = g.H.Holder.sheet c.loop-y.h in
    let t' = g.H.Holder.sheet c.put_row.new.h in
    let y = c.loop-y.y in
    let ring = c.next_row-picks.new.self in
    let new = c.next_row-picks.new.table in
    let next = c.next_row-picks.ensures in
    let I = c.loop-y.invariant in
    let e = next.course in
    let G = goes_same f k.greatest p w ring.course course e I.2 in
    let more = times_more y (y + 1) (line_picks w (lengths_of p) + w * (length (chords_of p) - 1)) refl in
    let both = next.row s I.3.left I.4 in
    let start : ℕ = ring.slot * length (lengths_of course.plan) * (course.width + 30) in
    let same = ap (λ (x : Course g.row.H-Cell.Denot). ring.slot * length (lengths_of x.plan) * (x.width + 30)) e in
    let room : p.rows * length (lengths_of p) * (w + 30) ≤ length new = omega (arith, c.requires.room, c.loop-y.auto.table, c.first_lines-picks.auto.table, c.next_row-picks.auto.table) in
    let long = row_long f k.greatest p w ring G new c.row.result.now room c.row.ensures in
    let row = row_cell f k.greatest p w ring G new c.row.result.now room c.row.ensures k.greatest k.greatest in
    let put = c.put_row.ensures in (
      omega (arith, next.few, I.0, times_more y (y + 1) (64418 + 2048 * 495) refl),
      omega (arith, next.picks ∙ row_picks f k.greatest p w course I.2, I.1, more),
      G,
      mixed_more k f p w s t t' y (y + 1) refl I.3 put.width put.height
          (λ x h. (
            entry k f new (start + x),
            put.cells k.greatest x (omega (arith, long)) ∙ ap (λ v. Some v) (row x h ∙ ap (λ (n : ℕ). entry k f new (n + x)) same),
            laid_gathered f k.greatest p w course I.2 k s new start y both.0 x h,
          ))
          (λ i j h. put.beside i j (omega (arith, long))) put.rest,
      stands_next k f s ring.course course new ring.slot y e both.1,
    )

pub returns : goal.returns
returns g c =
    let k = side g.S.Side.lower g.H.Cell.Kind.lattice in
    let f = g.H.Cell.Kind.means in
    let p = c.args.plan in
    let w = c.args.size.width in
    let s = g.H.Holder.sheet c.args.h.now in
    let t = g.H.Holder.sheet c.loop-y.h in
    let ew = c.requires.size.1.1.0 in
    let eh = c.requires.size.1.1.1 in
    let lp = line_picks w (lengths_of p) in
    let row = w * (length (chords_of p) - 1) in
    let end : c.loop-y.y ≡ c.args.size.height = omega (arith, c.loop-y.auto.y-end) in
    let M : Mixed k f p s.width s t s.height = subst (λ (n : ℕ). Mixed k f p n s t s.height) ew (subst (Mixed k f p w s t) (end ∙ eh) c.loop-y.invariant.3) in
    record {
      picks = c.loop-y.invariant.1 ∙ ap (λ (y : ℕ). (p.rows - 1) * lp + y * (lp + row)) end ∙ rows_picks c.args.size.height p.rows lp row (omega (arith, p.sound.origin));
      after = λ ps P. mixed_eroded k f p s t ps M c.requires.whole P;
    }
