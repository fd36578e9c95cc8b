-- One cell more is padding.
use Rattle.std.proofs.Common.{◌<◌, length, refl, arith}
use Rattle.filters.proofs.Entries.{fill_more}
use Rattle.filters.proofs.line.fill.Goals as goal

pub loop-cell-preserved : goal.loop-cell-preserved
loop-cell-preserved g c =
    let f = g.K.Kind.means in
    let lt : c.loop-cell.cell-index < length c.loop-cell.cells = omega arith in
    λ z. fill_more f z c.loop-cell.cells c.loop-cell.cell-index c.args.pad (λ _. f c.args.pad) lt refl (c.loop-cell.invariant z)
