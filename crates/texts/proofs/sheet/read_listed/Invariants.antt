-- What is left of the lines leads to the same end, and the sheet has no more rows than lines were passed.
use Rattle.std.proofs.Common.{◌≤◌, List, drop}
use Rattle.sheets.specs.declared.holder.Size.{Size}
use Rattle.texts.specs.Sheets.{none, Grid, GridFault}
use Rattle.texts.specs.declared.sheet.SheetFault.{SheetFault}
use Rattle.texts.proofs.sheet.read_listed.Given as goal

abbrev pub invariant-loop-line : goal.invariant-loop-line
invariant-loop-line g l =
    let f = g.T.FromStr.from_str_gives in
    (l.size.height ≤ l.line-index)
    × ((t : Size) (ys : List g.row.T.Denot) → Grid f (drop l.line-index l.lines) l.size l.cells.items t ys → Grid f l.lines none l.initial.cells.items t ys)
    × ((e : SheetFault) → GridFault f (drop l.line-index l.lines) l.size l.cells.items e → GridFault f l.lines none l.initial.cells.items e)
