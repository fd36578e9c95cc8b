-- The line completes the ring, which then has all that the row's chords show; the row is laid over the oldest line.
use Rattle.std.proofs.Common.{◌≡◌, ℕ, ◌+◌, ◌-◌, ◌*◌, ◌<◌, ◌≤◌, List, length, sym, refl, subst, arith}
use Rattle.cells.specs.Lattice.{Lattice}
use Rattle.sheets.specs.Sheet.{Sheet}
use Rattle.plans.specs.Shown.{lengths_of, chords_of}
use Rattle.filters.specs.declared.course.Course.{Course}
use Rattle.filters.specs.Side.{side}
use Rattle.filters.specs.Line.{entry, Beside}
use Rattle.filters.specs.Row.{run_of, picked}
use Rattle.filters.specs.Sweep.{next_slot, InRing, Stands, Laid}
use Rattle.filters.proofs.Bests.{best_at}
use Rattle.filters.proofs.Rings.{holds_sheet, ring_more, ring_less, through_best}
use Rattle.filters.proofs.Rooms.{part_room}
use Rattle.filters.proofs.ring.Ring.next_row.Goals as goal

-- what the table has once the row is gathered
abbrev Finished : {K C : Type 0} → Lattice C → (K → C) → Sheet K → List K → ℕ → ℕ → Course K → Type 0
Finished k f s new slot y c = Laid k f c s new (slot * length (lengths_of c.plan) * (c.width + 30)) y × Stands k f c s new slot (y + c.plan.rows) (c.plan.rows - 1)

-- a full ring shows all that the row's chords do, and the row is laid over its oldest line
finish : {K C : Type 0} (k : Lattice C) (f : K → C) (c : Course K) (s : Sheet K) (mid new : List K) (slot y : ℕ) → slot < c.plan.rows →
    InRing k f (f c.pad) s c.plan c.width mid slot (y + c.plan.rows) (c.plan.rows - 1 + 1) →
    ((x : ℕ) → x < c.width → entry k f new (slot * length (lengths_of c.plan) * (c.width + 30) + x) ≡ picked k (run_of f k.greatest mid c.plan (c.width + 30) slot x) (length (chords_of c.plan) - 1)) →
    Beside f mid new (slot * length (lengths_of c.plan) * (c.width + 30)) (slot * length (lengths_of c.plan) * (c.width + 30) + c.width) →
    Finished k f s new slot y c
finish k f c s mid new slot y in_ring R cells B =
    let p = c.plan in
    let z = f c.pad in
    let less : p.rows - 1 < p.rows = omega (arith, p.sound.origin) in
    let every : p.rows - 1 + 1 ≡ p.rows = omega (arith, p.sound.origin) in
    let room = part_room 0 (length (lengths_of p)) (c.width + 30) p.sound.some_length in (
      λ x h. best_at k _ _ _ (cells x h) (through_best k f z s p c.width mid slot (y + p.rows) x y h refl (subst (InRing k f z s p c.width mid slot (y + p.rows)) every R)),
      ring_less k f z s p c.width mid new slot (y + p.rows) (p.rows - 1) in_ring less (record { before = B.before; after = λ v x h. B.after v x (omega (arith, room)) }) R,
    )

pub returns-clause-row : goal.returns-clause-row
returns-clause-row g c =
    let k = side g.S.Side.lower g.K.Kind.lattice in
    let f = g.K.Kind.means in
    let course = c.args.self.now.course in
    let z = f course.pad in
    let p = course.plan in
    let w = course.width in
    let y = c.args.y in
    let slot = c.args.self.now.slot in
    let old = c.args.table.now in
    let mid = c.take-taken.new.table in
    let new = c.gather-picked.new.table in
    let o = p.sound in
    let line = y + p.rows - 1 in
    let in_ring = c.args.self.now.due in
    let less : p.rows - 1 < p.rows = omega (arith, o.origin) in
    let low : y ≤ line - p.above = omega (arith, o.origin) in
    let all : line + 1 ≡ y + p.rows = omega (arith, o.origin) in
    let taken = c.take-taken.ensures in
    let picked = c.gather-picked.ensures in
    let next = c.take-taken.new.self.slot in
    let e : next ≡ next_slot p.rows slot = taken.slot in
    λ s same R.
    let full : InRing k f z s p w mid next (y + p.rows) (p.rows - 1 + 1) =
    subst (λ (n : ℕ). InRing k f z s p w mid n (y + p.rows) (p.rows - 1 + 1)) (sym e)
    (subst (λ (l : ℕ). InRing k f z s p w mid (next_slot p.rows slot) l (p.rows - 1 + 1)) all
    (ring_more k f z s p w old mid slot line (p.rows - 1) in_ring less taken.beside
    (holds_sheet k f z s p w (g.H.Holder.sheet c.args.h.now) mid (slot * length (lengths_of p) * (w + 30)) line y same low taken.holds) R)) in
    subst (Finished k f s new next y) taken.course (finish k f c.take-taken.new.self.course s mid new next y c.take-taken.new.self.due
    (subst (λ (x : Course g.row.K.Denot). InRing k f (f x.pad) s x.plan x.width mid next (y + x.plan.rows) (x.plan.rows - 1 + 1)) (sym taken.course) full)
    (picked.cells k.greatest) picked.beside)
