-- A turn takes one word, and goes on where it is a step.
use Rattle.std.proofs.Common.{◌≡◌, ◌<◌, ◌-◌, ◌+◌, length, Bool, true, false, Ok, ◌∙◌, sym, subst, arith}
use Rattle.std.specs.Int.{w32, from_be_bytes}
use Rattle.std.proofs.lemmas.List.{length-map, take-map, length-take-le}
use Rattle.std.proofs.lemmas.Result.{err_from_is_err_and}
use Rattle.strips.specs.Reading.{step_due, steps_due}
use Rattle.strips.specs.Views.{left}
use Rattle.strips.proofs.Loops.{added, added_none, step_shorter, steps_goes, steps_done, steps_refused}
use Rattle.strips.proofs.strip.Strip.steps.Goals as goal

pub returns-in_err-step-clause-count : goal.returns-in_err-step-clause-count
returns-in_err-step-clause-count c =
    let p = err_from_is_err_and c.from_residual.result c.from_residual.ensures.1 in
    let l = left c.loop.self in
    let s = left c.args.self.now in
    let all = steps_refused (length s.words - length l.words) l.place l.words c.in_err-step.field-0.0 (added 0 (steps_due s)) c.in_err-step.ensures c.loop.invariant.reads in
    rw (p.1, p.2) (sym (added_none (steps_due s)) ∙ all)

pub loop-smaller : goal.loop-smaller
loop-smaller c =
    let l = left c.loop.self in
    let k = step_shorter l.place l.words c.in_ok-step.field-0 (left c.step.new.self) c.in_ok-step.ensures in
    let less : length (left c.step.new.self).words < length l.words = omega (arith, k) in
    less

pub loop-preserved : goal.loop-preserved
loop-preserved c =
    let l = left c.loop.self in
    let m = left c.step.new.self in
    let s = left c.args.self.now in
    let step : step_due l ≡ Ok (true, m) = subst (λ (b : Bool). step_due l ≡ Ok (b, m)) c.if-branch.true c.in_ok-step.ensures in
    let k = step_shorter l.place l.words true m step in
    let n : (length s.words - length l.words) + 1 ≡ length s.words - length m.words = omega (arith, k, c.loop.invariant.fewer) in
    let goes = steps_goes (length s.words - length l.words) l.place l.words m (added 0 (steps_due s)) step c.loop.invariant.reads in
    record { reads = rw (← n) goes; fewer = omega (arith, k, c.loop.invariant.fewer) }

-- the end word went, too
shorter : (c : goal.Else-branch) → length c.step.new.self.words.now < length c.args.self.now.words.now
shorter c =
    let l = left c.loop.self in
    let k = step_shorter l.place l.words c.in_ok-step.field-0 (left c.step.new.self) c.in_ok-step.ensures in
    omega (arith, k, c.loop.invariant.fewer, length-map c.args.self.now.words.now (from_be_bytes w32), length-map c.step.new.self.words.now (from_be_bytes w32))

pub overflow_sub-result : goal.overflow_sub-result
overflow_sub-result c = omega (arith, shorter c)

pub slice_bounds-result-count : goal.slice_bounds-result-count
slice_bounds-result-count c = omega (arith, shorter c)

pub returns-clause-count : goal.returns-clause-count
returns-clause-count c =
    let l = left c.loop.self in
    let m = left c.step.new.self in
    let s = left c.args.self.now in
    let all = c.args.self.now.words.now in
    let rest = c.step.new.self.words.now in
    let step : step_due l ≡ Ok (false, m) = subst (λ (b : Bool). step_due l ≡ Ok (b, m)) c.if-branch.false c.in_ok-step.ensures in
    let k = step_shorter l.place l.words false m step in
    let long = length-take-le (length all - length rest - 1) all (omega arith) in
    let n : length all - length rest - 1 ≡ length s.words - length l.words = omega (arith, k, c.loop.invariant.fewer, length-map all (from_be_bytes w32), length-map rest (from_be_bytes w32)) in
    let done = steps_done (length s.words - length l.words) l.place l.words m (added 0 (steps_due s)) step c.loop.invariant.reads in
    rw (long, n) (sym (added_none (steps_due s)) ∙ done)

pub returns-clause-words : goal.returns-clause-words
returns-clause-words c =
    let all = c.args.self.now.words.now in
    let n = length all - length c.step.new.self.words.now - 1 in
    rw (length-take-le n all (omega arith)) (sym (take-map (from_be_bytes w32) n all))
