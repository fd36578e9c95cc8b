-- The rows and the lengths are those of the definition.
use Rattle.std.proofs.Common.{ℕ, ◌+◌, ◌*◌, length, ap, ◌∙◌, ap₂, mul_comm}
use Rattle.masks.specs.Chords.{chords}
use Rattle.masks.specs.Cost.{capped, table_cells, spanned}
use Rattle.masks.specs.Lengths.{lengths}
use Rattle.masks.proofs.Capping.{cap_mul_left}
use Rattle.masks.proofs.cost.table_cells.Goals as goal

pub returns : goal.returns
unfolding table_cells
returns c =
    let rows = c.args.mask.now.rows in
    let w = c.args.width in
    let n = ap length (c.as_slice.ensures.items ∙ c.of.ensures.list) in
    c.saturating_mul.ensures
    ∙ ap (λ (k : ℕ). capped (k * (c.rows.result * length c.as_slice.result.now))) c.saturating_add.ensures
    ∙ cap_mul_left (w + 30) (c.rows.result * length c.as_slice.result.now)
    ∙ ap₂ (λ (v k : ℕ). capped ((w + 30) * (v * k))) c.rows.ensures.answer n
    ∙ ap capped (mul_comm (w + 30) (spanned rows * length (lengths (chords rows 31))))
