-- the rows that the loop has passed are copied
use Rattle.std.proofs.Common.{◌≡◌, ◌&&◌, ltb}
use Rattle.sheets.specs.Copied.{copied_where}
use Rattle.sheets.proofs.copy.copy_into.Given as goal

abbrev pub invariant-loop-y : goal.invariant-loop-y
invariant-loop-y g l =
    g.H.Holder.sheet l.to ≡ copied_where (λ i j. ltb j l.y && ltb i l.size.width) (g.G.Holder.sheet l.from) (g.H.Holder.sheet l.initial.to)
