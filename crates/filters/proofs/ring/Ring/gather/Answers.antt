-- One entry more of the first run; one more picked; one chord more; one entry more laid down.
use Rattle.std.proofs.Common.{◌≡◌, ℕ, ◌+◌, ◌-◌, ◌*◌, ◌/◌, ◌<◌, ◌≤◌, List, length, get_or, sym, ap, ◌∙◌, arith, length-set, rules}
use Rattle.std.proofs.lemmas.List.{get_or-map, places}
use Rattle.plans.specs.Plan.{chord_of}
use Rattle.plans.specs.Sound.{chord_at}
use Rattle.plans.specs.declared.plan.Plan.{Plan}
use Rattle.plans.specs.declared.placed.PlannedChord.{PlannedChord}
use Rattle.plans.specs.Shown.{lengths_of}
use Rattle.filters.specs.Side.{side, cell_at}
use Rattle.filters.specs.Row.{base_of, picked, run_of}
use Rattle.filters.proofs.Entries.{at_read, fill_more, keep_more, line_more, beside_more}
use Rattle.filters.proofs.Picks.{pick_more}
use Rattle.filters.proofs.Rooms.{part_room, slot_room}
use Rattle.filters.proofs.ring.Ring.gather.Given as given
use Rattle.filters.proofs.ring.Ring.gather.Goals as goal

pub loop-i-preserved : goal.loop-i-preserved
loop-i-preserved g c =
    let p = c.args.self.now.course.plan in
    let lt : c.loop-i.i < length c.loop-i.row = omega arith in
    let lb : c.base-first.result + c.loop-i.i < length c.args.table.now = omega arith in
    let place = c.base-first.ensures.place ∙ ap (λ (cs : List PlannedChord). base_of p.rows (length (lengths_of p)) (c.args.self.now.course.width + 30) c.args.self.now.slot (chord_at cs 0)) c.as_slice-chords.ensures in (
      simp length-set c.loop-i.invariant.0,
      λ z. fill_more g.K.Kind.means z c.loop-i.row c.loop-i.i c.index-table-first.result _ lt
          (let r = at_read g.K.Kind.means z c.args.table.now (c.base-first.result + c.loop-i.i) c.index-table-first.result lb c.index-table-first.is in cc (r, place))
          (c.loop-i.invariant.1 z),
    )

-- an entry that was read is what its chord gives at the column
run_read : {K C : Type 0} (f : K → C) (z : C) (t : List K) (p : Plan) (stride oldest x q base : ℕ) (v : K) → base + x < length t → base ≡ base_of p.rows (length (lengths_of p)) stride oldest (chord_of p q) → v ≡ get_or t (base + x) v → f v ≡ run_of f z t p stride oldest x q
run_read f z t p stride oldest x q base v l place e =
    sym (at_read f z t (base + x) v l e) ∙ ap (λ (n : ℕ). cell_at f z t (n + x)) place

pub loop-x-preserved : goal.loop-x-preserved
loop-x-preserved g c =
    let f = g.K.Kind.means in
    let p = c.args.self.now.course.plan in
    let w = c.args.self.now.course.width in
    let t = c.args.table.now in
    let x = c.loop-x.x in
    let k = side g.S.Side.lower g.K.Kind.lattice in
    let n = c.loop-four.four * 4 in
    let lt : x < length c.loop-x.row = omega arith in
    let la : c.base-a.result + x < length t = omega arith in
    let lb : c.base-b.result + x < length t = omega arith in
    let lc : c.base-c.result + x < length t = omega arith in
    let ld : c.base-d.result + x < length t = omega arith in
    let le : x ≤ x = omega arith in
    let at = λ (q : ℕ). ap (λ (cs : List PlannedChord). base_of p.rows (length (lengths_of p)) (w + 30) c.args.self.now.slot (chord_at cs q)) c.as_slice-chords.ensures in (
      simp length-set c.loop-x.invariant.0,
      omega arith,
      λ z. fill_more f z c.loop-x.row x c.pick-in-loop-x-2.result _ lt
          (let F = run_of f z t p (w + 30) c.args.self.now.slot x in
          let r = at_read f z c.loop-x.row x c.index-row-x.result lt c.index-row-x.is in
          let e = sym r ∙ c.loop-x.invariant.3 z x le c.loop-x-test.true in
          let entry = λ (q : ℕ). run_read f z t p (w + 30) c.args.self.now.slot x q in
          let one = pick_more k F (n + 1) _ _ _ (omega arith) c.pick.ensures (ap f (sym c.index-row-x.is) ∙ e ∙ ap (picked k F) (omega arith)) (entry (n + 1) c.base-a.result c.index-table-a.result la (c.base-a.ensures.place ∙ at (n + 1)) c.index-table-a.is) in
          let two = pick_more k F (n + 2) _ _ _ (omega arith) c.pick-near.ensures (one ∙ ap (picked k F) (omega arith)) (entry (n + 2) c.base-b.result c.index-table-b.result lb (c.base-b.ensures.place ∙ at (n + 2)) c.index-table-b.is) in
          let three = pick_more k F (n + 3) _ _ _ (omega arith) c.pick-in-loop-x.ensures (two ∙ ap (picked k F) (omega arith)) (entry (n + 3) c.base-c.result c.index-table-c.result lc (c.base-c.ensures.place ∙ at (n + 3)) c.index-table-c.is) in
          pick_more k F (n + 4) _ _ _ (omega arith) c.pick-in-loop-x-2.ensures (three ∙ ap (picked k F) (omega arith)) (entry (n + 4) c.base-d.result c.index-table-d.result ld (c.base-d.ensures.place ∙ at (n + 4)) c.index-table-d.is))
          (c.loop-x.invariant.2 z),
      λ z. keep_more f z c.loop-x.row x w c.pick-in-loop-x-2.result _ (c.loop-x.invariant.3 z),
    )

pub loop-x-2-preserved : goal.loop-x-2-preserved
loop-x-2-preserved g c =
    let f = g.K.Kind.means in
    let p = c.args.self.now.course.plan in
    let w = c.args.self.now.course.width in
    let t = c.args.table.now in
    let x = c.loop-x-2.x in
    let k = side g.S.Side.lower g.K.Kind.lattice in
    let n = (length c.as_slice-chords.result.now - 1) / 4 * 4 + c.loop-chord.chord-index in
    let lt : x < length c.loop-x-2.row = omega arith in
    let lb : c.base-from.result + x < length t = omega arith in
    let le : x ≤ x = omega arith in
    let place : c.base-from.result ≡ base_of p.rows (length (lengths_of p)) (w + 30) c.args.self.now.slot (chord_of p (n + 1)) =
    c.base-from.ensures.place ∙ ap (base_of p.rows (length (lengths_of p)) (w + 30) c.args.self.now.slot) (let e = c.as_slice-chords.ensures in search (rules, places)) in (
      simp length-set c.loop-x-2.invariant.0,
      omega arith,
      λ z. fill_more f z c.loop-x-2.row x c.pick-in-loop-x-2-2.result _ lt
          (let F = run_of f z t p (w + 30) c.args.self.now.slot x in
          let r = at_read f z c.loop-x-2.row x c.index-row-x-in-loop-x-2.result lt c.index-row-x-in-loop-x-2.is in
          let e = sym r ∙ c.loop-x-2.invariant.3 z x le c.loop-x-2-test.true in
          pick_more k F (n + 1) _ _ _ (omega arith) c.pick-in-loop-x-2-2.ensures (ap f (sym c.index-row-x-in-loop-x-2.is) ∙ e ∙ ap (picked k F) (omega arith)) (run_read f z t p (w + 30) c.args.self.now.slot x (n + 1) c.base-from.result c.index-table-from.result lb place c.index-table-from.is))
          (c.loop-x-2.invariant.2 z),
      λ z. keep_more f z c.loop-x-2.row x w c.pick-in-loop-x-2-2.result _ (c.loop-x-2.invariant.3 z),
    )

-- the slot has room for the row
room : (g : given.Over) (c : goal.After-index-row-c g) → c.start-start.result + c.loop-c.c < length c.loop-c.table
room g c =
    let p = c.args.self.now.course.plan in
    let n = length (lengths_of p) in
    let w = c.args.self.now.course.width in
    omega (arith, c.start-start.ensures, c.requires, c.loop-c.auto.table, slot_room c.args.self.now.slot p.rows n (w + 30) c.args.self.now.due, part_room 0 n (w + 30) p.sound.some_length)

pub offset_bounds-table-start : goal.offset_bounds-table-start
offset_bounds-table-start g c = let l = room g c in search rules

pub bounds-table-start : goal.bounds-table-start
bounds-table-start g c = room g c

pub loop-c-preserved : goal.loop-c-preserved
loop-c-preserved g c =
    let f = g.K.Kind.means in
    let start = c.start-start.result in
    let row = c.loop-chord.row in
    let v = get_or row c.loop-c.c c.index-row-c.result in
    let lt : c.loop-c.c < length row = omega arith in
    let lb = room g c in (
      λ z. line_more f z c.loop-c.table start c.loop-c.c v _ lb (sym (get_or-map f row c.loop-c.c c.index-row-c.result z lt)) (c.loop-c.invariant.0 z),
      beside_more f c.loop-c.table c.args.table.now start c.loop-c.c v c.loop-c.invariant.1,
    )
