-- What is wrong with a line is wrong with the lines from it on.
use Rattle.std.proofs.Common.{rules, List, ℕ, inl, inr, refl, sym, subst, arith}
use Rattle.texts.specs.Lines.{shown}
use Rattle.texts.specs.Views.{GridFaultIn}
use Rattle.texts.specs.Sheets.{none}
use Rattle.texts.specs.declared.sheet.SheetFault.TheVariants.{UnlikeRow}
use Rattle.texts.proofs.Views.{shown_long}
use Rattle.texts.proofs.sheet.read_rows.Goals as goal

pub returns-in_err-width-clause-fault : goal.returns-in_err-width-clause-fault
returns-in_err-width-clause-fault g c =
    let f = g.T.FromStr.from_str_gives in
    let l = c.loop-i in
    let e = c.in_err-width.field-0.0 in
    let told : GridFaultIn f (shown c.args.lines) none c.args.cells.now.items e =
    l.invariant.2 e (subst (λ (ls : List (ℕ × List ℕ)). GridFaultIn f ls l.size l.cells.items e) (sym c.at-line.ensures) (inl c.in_err-width.ensures.fault)) in
    search (rules, told)

pub returns-then-not-agrees-clause-fault : goal.returns-then-not-agrees-clause-fault
returns-then-not-agrees-clause-fault g c =
    let f = g.T.FromStr.from_str_gives in
    let l = c.loop-i in
    let e = UnlikeRow c.at-line.result.number in
    l.invariant.2 e (subst (λ (ls : List (ℕ × List ℕ)). GridFaultIn f ls l.size l.cells.items e) (sym c.at-line.ensures)
    (inr (c.in_ok-width.width, c.read_row.new.cells.items, c.in_ok-width.ensures.row, inl (sym c.if-not-agrees.ensures, refl))))

pub grown-size-requires : goal.grown-size-requires
grown-size-requires g c =
    let long = shown_long c.args.lines.first c.args.lines.texts.now in
    omega (arith, long, c.loop-i.invariant.0, c.loop-i-test.true, c.len-i-end.ensures, c.args.lines.within)
