-- What is left of the lines leads to the same end, the sheet has no more rows than lines were passed, and the cells that were there stay.
use Rattle.std.proofs.Common.{◌≡◌, ◌≤◌, List, length, take, drop}
use Rattle.sheets.specs.declared.holder.Size.{Size}
use Rattle.texts.specs.Lines.{shown}
use Rattle.texts.specs.Views.{GridIn, GridFaultIn}
use Rattle.texts.specs.Sheets.{none}
use Rattle.texts.specs.declared.sheet.SheetFault.{SheetFault}
use Rattle.texts.proofs.sheet.read_rows.Given as goal

abbrev pub invariant-loop-i : goal.invariant-loop-i
invariant-loop-i g l =
    let f = g.T.FromStr.from_str_gives in
    (l.size.height ≤ l.i)
    × ((t : Size) (ys : List g.row.T.Denot) → GridIn f (drop l.i (shown l.lines)) l.size l.cells.items t ys → GridIn f (shown l.lines) none l.initial.cells.items t ys)
    × ((e : SheetFault) → GridFaultIn f (drop l.i (shown l.lines)) l.size l.cells.items e → GridFaultIn f (shown l.lines) none l.initial.cells.items e)
    × (take (length l.initial.cells.items) l.cells.items ≡ l.initial.cells.items)
