-- The calls before call i are made, and their answers are written.
use Rattle.std.proofs.Common.{length}
use Rattle.worksheets.specs.Runs.{Ran}
use Rattle.worksheets.proofs.Steps.{front}
use Rattle.worksheets.proofs.worksheet.Worksheet.run.Given as goal

abbrev pub invariant-loop-i : goal.invariant-loop-i
invariant-loop-i g l =
    Ran g.H.Cell.Kind.lattice g.H.Cell.Kind.means g.H.Holder.sheet (front (length l.initial.table) l.call-items l.i) l.initial.self l.self l.initial.table l.table l.initial.told l.told
