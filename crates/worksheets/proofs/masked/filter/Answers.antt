-- The first pass of an opening or a closing goes ahead, and then so does the second.
use Rattle.std.proofs.Common.{◌+◌, Ok, sym, subst, arith}
use Rattle.worksheets.specs.Performed.{under, Performed}
use Rattle.worksheets.proofs.Passes.{opening_halves, closing_halves, one_pass, second_goes, sum_few, both_passes}
use Rattle.worksheets.proofs.masked.filter.Goals as goal

pub returns-in_err-dilate-in-Open : goal.returns-in_err-dilate-in-Open
returns-in_err-dilate-in-Open g c =
    absurd (second_goes opening_halves (one_pass c.in_ok-erode-in-Open.ensures) (one_pass c.in_err-dilate-in-Open.ensures))

pub overflow_add-result : goal.overflow_add-result
overflow_add-result g c =
    omega (arith, sum_few opening_halves (one_pass c.in_ok-erode-in-Open.ensures) (one_pass c.in_ok-dilate-in-Open.ensures))

pub returns-in_ok-dilate-in-Open : goal.returns-in_ok-dilate-in-Open
returns-in_ok-dilate-in-Open g c =
    let m = c.args.mask.now in
    subst (λ q. Performed g.H.Cell.Kind.lattice g.H.Cell.Kind.means g.H.Holder.sheet q (under m c.args.holder.now) (under m c.dilate-in-Open.new.holder) c.args.table.now c.dilate-in-Open.new.table (Ok (c.in_ok-erode-in-Open.field-0 + c.in_ok-dilate-in-Open.field-0))) (sym c.in-Open.is)
    (both_passes opening_halves (one_pass c.in_ok-erode-in-Open.ensures) (one_pass c.in_ok-dilate-in-Open.ensures))

pub returns-in_err-erode-in-Close : goal.returns-in_err-erode-in-Close
returns-in_err-erode-in-Close g c =
    absurd (second_goes closing_halves (one_pass c.in_ok-dilate-in-Close.ensures) (one_pass c.in_err-erode-in-Close.ensures))

pub overflow_add-result-in-Close : goal.overflow_add-result-in-Close
overflow_add-result-in-Close g c =
    omega (arith, sum_few closing_halves (one_pass c.in_ok-dilate-in-Close.ensures) (one_pass c.in_ok-erode-in-Close.ensures))

pub returns-in_ok-erode-in-Close : goal.returns-in_ok-erode-in-Close
returns-in_ok-erode-in-Close g c =
    let m = c.args.mask.now in
    subst (λ q. Performed g.H.Cell.Kind.lattice g.H.Cell.Kind.means g.H.Holder.sheet q (under m c.args.holder.now) (under m c.erode-in-Close.new.holder) c.args.table.now c.erode-in-Close.new.table (Ok (c.in_ok-dilate-in-Close.field-0 + c.in_ok-erode-in-Close.field-0))) (sym c.in-Close.is)
    (both_passes closing_halves (one_pass c.in_ok-dilate-in-Close.ensures) (one_pass c.in_ok-erode-in-Close.ensures))
