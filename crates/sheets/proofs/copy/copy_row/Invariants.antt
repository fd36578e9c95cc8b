-- the columns that the loop has passed are copied
use Rattle.std.proofs.Common.{◌≡◌, ◌&&◌, eqb, ltb}
use Rattle.sheets.specs.Copied.{copied_where}
use Rattle.sheets.proofs.copy.copy_row.Given as goal

abbrev pub invariant-loop-x : goal.invariant-loop-x
invariant-loop-x g l =
    g.H.Holder.sheet l.to ≡ copied_where (λ i j. eqb j l.y && ltb i l.x) (g.G.Holder.sheet l.from) (g.H.Holder.sheet l.initial.to)
