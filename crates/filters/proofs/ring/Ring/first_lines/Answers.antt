-- A line more stands in the ring.
use Rattle.std.proofs.Common.{◌≡◌, ℕ, ◌+◌, ◌*◌, ◌<◌, length, sym, refl, ap, ◌∙◌, subst, arith}
use Rattle.masks.specs.Cost.{line_picks}
use Rattle.plans.specs.Shown.{lengths_of}
use Rattle.filters.specs.Side.{side}
use Rattle.filters.specs.Line.{Holds, Beside}
use Rattle.filters.specs.Sweep.{next_slot, Stands}
use Rattle.filters.specs.declared.course.Course.{Course}
use Rattle.filters.proofs.Rooms.{times_more}
use Rattle.filters.proofs.Rings.{ring_more, slot_filling}
use Rattle.filters.proofs.ring.Ring.first_lines.Goals as goal

pub loop-line-preserved : goal.loop-line-preserved
loop-line-preserved g c =
    let k = side g.S.Side.lower g.K.Kind.lattice in
    let f = g.K.Kind.means in
    let s = g.H.Holder.sheet c.args.h.now in
    let first = c.args.self.now.course in
    let course = c.loop-line.self.course in
    let p = course.plan in
    let line = c.loop-line.line in
    let old = c.loop-line.table in
    let new = c.take-picks.new.table in
    let lp = line_picks first.width (lengths_of first.plan) in
    let more : (line + 1) * lp ≡ line * lp + lp = times_more line (line + 1) lp refl in
    let same = c.loop-line.invariant.2 in
    let at = c.loop-line.invariant.3 in
    let rows : p.rows ≡ first.plan.rows = ap (λ (x : Course g.row.K.Denot). x.plan.rows) same in
    let in_ring : line < p.rows = omega (arith, rows) in
    let filling : line + 1 < p.rows = omega (arith, rows) in
    let taken = c.take-picks.ensures in
    let start : c.loop-line.self.slot * length (lengths_of p) * (course.width + 30) ≡ line * length (lengths_of p) * (course.width + 30) = ap (λ (n : ℕ). n * length (lengths_of p) * (course.width + 30)) at in
    let next = slot_filling p.rows line filling in
    let R : Stands k f course s new (next_slot p.rows line) (line + 1) (line + 1) =
    ring_more k f (f course.pad) s p course.width old new line line line in_ring in_ring
    (subst (λ (n : ℕ). Beside f old new n (n + length (lengths_of p) * (course.width + 30))) start taken.beside)
    (subst (λ (n : ℕ). Holds k f (f course.pad) s p course.width new n line) start taken.holds) c.loop-line.invariant.4 in (
      omega (arith, taken.few),
      omega (arith, more, taken.picks ∙ ap (λ (x : Course g.row.K.Denot). line_picks x.width (lengths_of x.plan)) same, c.loop-line.invariant.1),
      taken.course ∙ same,
      taken.slot ∙ ap (next_slot p.rows) at ∙ next,
      subst (λ (n : ℕ). Stands k f c.take-picks.new.self.course s new n (line + 1) (line + 1)) next
          (subst (λ (x : Course g.row.K.Denot). Stands k f x s new (next_slot p.rows line) (line + 1) (line + 1)) (sym taken.course) R),
    )
