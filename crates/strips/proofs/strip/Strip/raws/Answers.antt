-- A turn takes one raw word of those that are left.
use Rattle.std.proofs.Common.{◌≤◌, length, sym, arith}
use Rattle.std.specs.Int.{w32, from_be_bytes}
use Rattle.std.proofs.lemmas.List.{length-map, take-map, length-take-le}
use Rattle.std.proofs.lemmas.Result.{err_from_is_err_and}
use Rattle.strips.specs.Reading.{raws_due}
use Rattle.strips.specs.Views.{left}
use Rattle.strips.proofs.Loops.{raws_goes, raws_refused, raws_done}
use Rattle.strips.proofs.Taken.{raws_there}
use Rattle.strips.proofs.strip.Strip.raws.Goals as goal

pub returns-in_err-cell-clause-passed : goal.returns-in_err-cell-clause-passed
returns-in_err-cell-clause-passed c =
    let p = err_from_is_err_and c.from_residual.result c.from_residual.ensures.1 in
    rw (p.1, p.2) (raws_refused c.args.kind c.args.n c.loop.counter (left c.loop.self) c.in_err-cell.field-0.0 (raws_due c.args.kind c.args.n (left c.args.self.now)) c.loop-test.true c.in_err-cell.ensures c.loop.invariant)

pub loop-preserved : goal.loop-preserved
loop-preserved c = raws_goes c.args.kind c.args.n c.loop.counter (left c.loop.self) (left c.cell.new.self) c.in_ok-cell.field-0 (raws_due c.args.kind c.args.n (left c.args.self.now)) c.loop-test.true c.in_ok-cell.ensures c.loop.invariant

pub returns-clause-passed : goal.returns-clause-passed
returns-clause-passed c = raws_done c.args.kind c.args.n c.loop.counter (left c.loop.self) (raws_due c.args.kind c.args.n (left c.args.self.now)) c.loop-test.false c.loop.invariant

pub slice_bounds-result-end : goal.slice_bounds-result-end
slice_bounds-result-end c =
    let l = left c.args.self.now in
    let done = raws_done c.args.kind c.args.n c.loop.counter (left c.loop.self) (raws_due c.args.kind c.args.n l) c.loop-test.false c.loop.invariant in
    let there = raws_there c.args.kind c.args.n l.place l.words (left c.loop.self) done in
    let le : c.args.n ≤ length c.args.self.now.words.now = omega (arith, there, length-map c.args.self.now.words.now (from_be_bytes w32)) in
    sym (length-take-le c.args.n c.args.self.now.words.now le)

pub returns-clause-words : goal.returns-clause-words
returns-clause-words c = sym (take-map (from_be_bytes w32) c.args.n c.args.self.now.words.now)
