-- The chords, the lengths and the rows are those of the definition.
use Rattle.std.proofs.Common.{ℕ, ◌+◌, ◌-◌, ◌*◌, List, length, ap, ◌∙◌, ap₂, arith}
use Rattle.masks.specs.Chords.{chords}
use Rattle.masks.specs.Cost.{capped, line_picks, filter_picks, spanned}
use Rattle.masks.specs.Lengths.{lengths}
use Rattle.masks.proofs.Capping.{cap_line}
use Rattle.masks.proofs.Lists.{among_length}
use Rattle.masks.proofs.Runs.{some_chord, spanned_some}
use Rattle.masks.proofs.cost.filter_picks.Goals as goal

pub picks-requires : goal.picks-requires
picks-requires c =
    let rows = c.args.mask.now.rows in
    let some = some_chord rows c.args.mask.now.some in
    let n = ap length (c.as_slice.ensures.items ∙ c.of-2.ensures.list) in
    let l = among_length (chords rows 31) some.0 some.1 in
    (let s = spanned_some rows in omega (arith, c.rows.ensures.answer), omega arith)

pub returns : goal.returns
unfolding filter_picks
returns c =
    let rows = c.args.mask.now.rows in
    let w = c.args.width in
    let h = c.args.height in
    let n = ap length (c.as_slice.ensures.items ∙ c.of-2.ensures.list) in
    let l = c.line_picks-line.ensures ∙ ap (λ (ns : List ℕ). capped (line_picks w ns)) c.of.ensures.list in
    c.picks.ensures
    ∙ ap₂ (λ (v k : ℕ). capped ((h + v - 1) * c.line_picks-line.result + w * h * (k - 1))) c.rows.ensures.answer n
    ∙ ap (λ (k : ℕ). capped ((h + spanned rows - 1) * k + w * h * (length (chords rows 31) - 1))) l
    ∙ cap_line (h + spanned rows - 1) (line_picks w (lengths (chords rows 31))) (w * h * (length (chords rows 31) - 1))
