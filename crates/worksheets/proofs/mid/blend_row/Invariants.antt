-- The columns before x are blended.
use Rattle.std.proofs.Common.{◌&&◌, nat_eq, nat_lt}
use Rattle.worksheets.specs.Mid.{Blended}
use Rattle.worksheets.proofs.mid.blend_row.Given as goal

abbrev pub invariant-loop-x : goal.invariant-loop-x
invariant-loop-x g l =
    Blended g.H.Cell.Kind.lattice g.H.Cell.Kind.means g.H.Cell.Measured.level (λ i j. nat_lt i l.x && nat_eq j l.y) (g.H.Holder.sheet l.initial.first) (g.G.Holder.sheet l.second) (g.H.Holder.sheet l.first)
