-- What is wrong with a line is wrong with the lines from it on.
use Rattle.std.proofs.Common.{rules, inl, inr, refl, sym}
use Rattle.texts.specs.Sheets.{none, GridFault}
use Rattle.texts.proofs.Rows.{fault-here}
use Rattle.texts.proofs.sheet.read_listed.Goals as goal

pub returns-in_err-n-clause-fault : goal.returns-in_err-n-clause-fault
returns-in_err-n-clause-fault g c =
    let l = c.loop-line in
    let e = c.in_err-n.field-0.0 in
    let told : GridFault g.T.FromStr.from_str_gives c.args.lines.now none c.args.cells.now.items e =
    l.invariant.2 e (fault-here g.T.FromStr.from_str_gives c.args.lines.now l.line-index _ l.size l.cells.items e c.loop-line-test.true (inl c.in_err-n.ensures.fault)) in
    search (rules, told)

pub returns-then-not-agrees-clause-fault : goal.returns-then-not-agrees-clause-fault
returns-then-not-agrees-clause-fault g c =
    let l = c.loop-line in
    l.invariant.2 _ (fault-here g.T.FromStr.from_str_gives c.args.lines.now l.line-index _ l.size l.cells.items _ c.loop-line-test.true
    (inr (c.in_ok-n.n, c.read_row.new.cells.items, c.in_ok-n.ensures.row, inl (sym c.if-not-agrees.ensures, refl))))
