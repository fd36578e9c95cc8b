-- Each length is made from the one before it: two runs of that overlap and make one of this.
use Rattle.std.proofs.Common.{◌≡◌, ℕ, ◌+◌, ◌-◌, ◌*◌, length, take, drop, ap, ◌∙◌, ap₂, arith}
use Rattle.std.proofs.lemmas.Iterator.{YieldsList-from_slice, YieldsList-from_zip}
use Rattle.std.proofs.lemmas.Iterator.Consumers.{YieldsList-from_enumerate, YieldsList-turn}
use Rattle.std.proofs.lemmas.List.{length_push}
use Rattle.cells.specs.Lattice.{Under}
use Rattle.plans.specs.Plan.{length_of}
use Rattle.plans.specs.Shown.{lengths_of}
use Rattle.filters.specs.Side.{side}
use Rattle.filters.specs.Line.{entry, Runs}
use Rattle.filters.proofs.Rooms.{part_room, part_next}
use Rattle.filters.proofs.Lines.{runs_more, picks_more, turn}
use Rattle.filters.proofs.line.build.Goals as goal

pub overflow_sub-longer : goal.overflow_sub-longer
overflow_sub-longer g c =
    let lens = c.as_slice-lengths.result.now in
    let t = YieldsList-turn (YieldsList-from_enumerate (YieldsList-from_zip (YieldsList-from_slice lens cc) (YieldsList-from_slice (take (length lens - 1) (drop 1 lens)) cc)) cc) c.loop-i.yielded c.loop-i.i-iterator c.loop-i.yielded_by c.next.result c.next.new.self (c.in-Some.i, (c.in-Some.shorter, c.in-Some.longer)) c.in-Some.is c.next.ensures.steps in
    let T = turn c.args.course.now.plan lens c.as_slice-lengths.ensures.items (length c.loop-i.yielded) c.in-Some.i c.in-Some.shorter.now c.in-Some.longer.now t.0 t.1 in
    omega (arith, T.shorter_is, T.longer_is, T.back, T.up)

pub lengthen-picks-requires : goal.lengthen-picks-requires
lengthen-picks-requires g c =
    let p = c.args.course.now.plan in
    let w = c.args.course.now.width in
    let n = length c.loop-i.yielded in
    let lens = c.as_slice-lengths.result.now in
    let t = YieldsList-turn (YieldsList-from_enumerate (YieldsList-from_zip (YieldsList-from_slice lens cc) (YieldsList-from_slice (take (length lens - 1) (drop 1 lens)) cc)) cc) c.loop-i.yielded c.loop-i.i-iterator c.loop-i.yielded_by c.next.result c.next.new.self (c.in-Some.i, (c.in-Some.shorter, c.in-Some.longer)) c.in-Some.is c.next.ensures.steps in
    let T = turn p lens c.as_slice-lengths.ensures.items n c.in-Some.i c.in-Some.shorter.now c.in-Some.longer.now t.0 t.1 in
    let room = part_room (n + 1) (length (lengths_of p)) (w + 30) T.within in
    let next = part_next (n + 1) (w + 30) T.one in
    let here_at : c.in-Some.i * (w + 30) ≡ n * (w + 30) = ap (λ (k : ℕ). k * (w + 30)) T.here in
    let next_at : (c.in-Some.i + 1) * (w + 30) ≡ (n + 1) * (w + 30) = ap (λ (k : ℕ). (k + 1) * (w + 30)) T.here in
    let back_at : (n + 1 - 1) * (w + 30) ≡ n * (w + 30) = ap (λ (k : ℕ). k * (w + 30)) (omega arith) in
    rw c.stride-stride.ensures (omega (arith, room, next, here_at, next_at, back_at, T.shorter_is, T.longer_is, T.back, T.up, T.top, T.low), omega (arith, room, next_at, T.longer_is, T.top, T.low, T.up, T.back, c.requires, c.loop-i.auto.lines))

pub loop-i-preserved : goal.loop-i-preserved
loop-i-preserved g c =
    let k = side g.S.Side.lower g.K.Kind.lattice in
    let f = g.K.Kind.means in
    let p = c.args.course.now.plan in
    let w = c.args.course.now.width in
    let old = c.loop-i.lines in
    let new = c.lengthen-picks.new.lines in
    let e = c.lengthen-picks.ensures in
    let n = length c.loop-i.yielded in
    let lens = c.as_slice-lengths.result.now in
    let t = YieldsList-turn (YieldsList-from_enumerate (YieldsList-from_zip (YieldsList-from_slice lens cc) (YieldsList-from_slice (take (length lens - 1) (drop 1 lens)) cc)) cc) c.loop-i.yielded c.loop-i.i-iterator c.loop-i.yielded_by c.next.result c.next.new.self (c.in-Some.i, (c.in-Some.shorter, c.in-Some.longer)) c.in-Some.is c.next.ensures.steps in
    let T = turn p lens c.as_slice-lengths.ensures.items n c.in-Some.i c.in-Some.shorter.now c.in-Some.longer.now t.0 t.1 in
    let few = p.sound.few_lengths in
    let stride = c.stride-stride.result in
    let this : (c.in-Some.i + 1) * stride ≡ (n + 1) * (w + 30) = ap₂ (λ (i m : ℕ). (i + 1) * m) T.here c.stride-stride.ensures in
    let before : c.in-Some.i * stride ≡ (n + 1 - 1) * (w + 30) = ap₂ (λ (i m : ℕ). i * m) T.here c.stride-stride.ensures ∙ ap (λ (i : ℕ). i * (w + 30)) (omega arith) in
    let picks : c.lengthen-picks.result ≡ w + 30 + 1 - length_of p (n + 1) = omega (arith, e.picks, T.longer_is, c.stride-stride.ensures) in
    let made : Runs k f (λ x a. Under k a (entry k f c.args.lines.now x)) p w new 0 (n + 1 + 1) =
    runs_more k f (λ x a. Under k a (entry k f c.args.lines.now x)) p w old new 0 (n + 1) T.one T.within
    (λ x h.
    let to : 0 + (n + 1) * (w + 30) + x ≡ (c.in-Some.i + 1) * stride + x = omega (arith, this) in
    let from : c.in-Some.i * stride + x ≡ 0 + (n + 1 - 1) * (w + 30) + x = omega (arith, before) in
    let apart : c.in-Some.i * stride + x + (c.in-Some.longer.now - c.in-Some.shorter.now) ≡ 0 + (n + 1 - 1) * (w + 30) + x + (length_of p (n + 1) - length_of p (n + 1 - 1)) = omega (arith, before, T.longer_is, T.shorter_is, T.back) in
    ap (entry k f new) to ∙ e.built k.greatest x (omega (arith, h, T.longer_is, c.stride-stride.ensures)) ∙ ap₂ k.meet (ap (entry k f old) from) (ap (entry k f old) apart))
    (λ x h. e.beside.before k.greatest x (omega (arith, h, this))) c.loop-i.invariant.2 in
    rw (length_push c.loop-i.yielded (c.in-Some.i, (c.in-Some.shorter, c.in-Some.longer))) (
      omega (arith, picks, T.top, c.loop-i.invariant.0),
      omega (arith, picks, T.top, picks_more w (lengths_of p) (n + 1) T.one T.within, c.loop-i.invariant.1),
      made,
    )
