-- A row more.
use Rattle.std.proofs.Common.{ℕ, List, ap, ◌∙◌}
use Rattle.std.specs.List.{range_with_len}
use Rattle.jobs.specs.Listings.{row}
use Rattle.jobs.specs.declared.line.Line.TheVariants.{Cells}
use Rattle.jobs.proofs.Rows.{row_words, rows_more}
use Rattle.jobs.proofs.perform.add_rows.Goals as goal

pub loop-y-preserved : goal.loop-y-preserved
loop-y-preserved g c =
    let s = g.H.Holder.sheet c.args.holder.now in
    let y = c.loop-y.y in
    let words = c.in_ok-words.ensures ∙ row_words g.H.Cell.Listed.listed (λ x. s.cell x y) (range_with_len 0 s.width) in
    rows_more (λ y. Cells c.args.kind (row g.H.Cell.Listed.listed s y)) c.args.so_far.now.items c.loop-y.so_far.items c.push.new.self.items y (Cells c.args.kind c.new.result) c.loop-y.invariant c.in_ok-push.ensures.items (ap (λ (ws : List ℕ). Cells c.args.kind ws) (c.new.ensures ∙ words))
