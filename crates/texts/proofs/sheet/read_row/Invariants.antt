-- The words passed are the cells that came behind those that were there.
use Rattle.std.proofs.Common.{◌≡◌, List, ◌++◌}
use Rattle.texts.specs.Sheets.{ReadAll}
use Rattle.texts.proofs.sheet.read_row.Given as goal

abbrev pub invariant-loop-word : goal.invariant-loop-word
invariant-loop-word g l =
    (cs : List g.row.T.Denot) × ReadAll g.T.FromStr.from_str_gives l.yielded cs × (l.cells.items ≡ l.initial.cells.items ++ cs)
