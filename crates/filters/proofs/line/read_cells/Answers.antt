-- One cell more of the row.
use Rattle.std.proofs.Common.{◌≡◌, ◌+◌, ◌<◌, length, Some, None, Option, refl, ap, ◌∙◌, arith}
use Rattle.std.specs.Option.{unwrap_or}
use Rattle.filters.specs.Line.{or_else}
use Rattle.filters.proofs.Entries.{fill_more}
use Rattle.filters.proofs.line.read_cells.Goals as goal

means_or : {K C : Type 0} (f : K → C) (o : Option K) (pad : K) → f (unwrap_or o pad) ≡ or_else f (f pad) o
means_or f None pad = refl
means_or f (Some c) pad = refl

pub loop-i-preserved : goal.loop-i-preserved
loop-i-preserved g c =
    let f = g.H.Cell.Kind.means in
    let pad = c.args.pad in
    let s = g.H.Holder.sheet c.args.h.now in
    let lt : c.loop-i.i < length c.loop-i.cells = omega arith in
    let e = ap f (c.unwrap_or.ensures ∙ ap (λ o. unwrap_or o pad) c.cell.ensures) ∙ means_or f (s.cell (c.args.from + c.loop-i.i) c.args.y) pad in
    λ z. fill_more f z c.loop-i.cells c.loop-i.i c.unwrap_or.result (λ i. or_else f (f pad) (s.cell (c.args.from + i) c.args.y)) lt e (c.loop-i.invariant z)
