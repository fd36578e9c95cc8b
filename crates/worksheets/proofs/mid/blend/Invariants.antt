-- The rows before y are blended.
use Rattle.std.proofs.Common.{◌&&◌, nat_lt}
use Rattle.worksheets.specs.Mid.{Blended}
use Rattle.worksheets.proofs.mid.blend.Given as goal

abbrev pub invariant-loop-y : goal.invariant-loop-y
invariant-loop-y g l =
    Blended g.H.Cell.Kind.lattice g.H.Cell.Kind.means g.H.Cell.Measured.level (λ i j. nat_lt i l.size.width && nat_lt j l.y) (g.H.Holder.sheet l.initial.first) (g.G.Holder.sheet l.second) (g.H.Holder.sheet l.first)
