-- The points are counted row by row.
use Rattle.std.proofs.Common.{ℕ, length, sym, refl, ◌∙◌, arith, rules, tests}
use Rattle.std.specs.List.{range_with_len}
use Rattle.std.proofs.lemmas.Iterator.{YieldsList-from_range, YieldsList-from_map}
use Rattle.std.proofs.lemmas.Iterator.Consumers.{sum_by_from_yields_List, fits_by_from_yields_list}
use Rattle.masks.specs.Rows.{columns}
use Rattle.masks.proofs.Grids.{length_points, points_few, points_order}
use Rattle.masks.proofs.mask.Mask.count.Goals as goal

pub sum-requires-clause-fits : goal.sum-requires-clause-fits
sum-requires-clause-fits c =
    let counted = λ (r : ℕ). length (columns c.args.self.now.rows r 31) in
    fits_by_from_yields_list counted (range_with_len 0 31) c.map.result _
    (YieldsList-from_map _ counted (YieldsList-from_range 0 31 31 c.map.ensures.source refl) c.map.ensures.closure (λ x r q k. search (rules, tests)))
    (omega (arith, points_few c.args.self.now.rows))

pub returns-clause-answer : goal.returns-clause-answer
returns-clause-answer c =
    let counted = λ (r : ℕ). length (columns c.args.self.now.rows r 31) in
    sum_by_from_yields_List counted (range_with_len 0 31) c.map.result c.sum.result c.sum.ensures.ran
    (YieldsList-from_map _ counted (YieldsList-from_range 0 31 31 c.map.ensures.source refl) c.map.ensures.closure (λ x r q k. search (rules, tests)))
    ∙ sym (length_points c.args.self.now.rows)

pub returns-clause-once : goal.returns-clause-once
returns-clause-once c = points_order c.args.self.now.rows
