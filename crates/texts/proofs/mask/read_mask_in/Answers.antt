-- The drawing is read from the lines that are drawn.
use Rattle.std.proofs.Common.{List, ℕ, Ok, map, ap, subst, inr, ◌∙◌, string_bytes}
use Rattle.std.proofs.lemmas.Result.{err_from_is_err_and}
use Rattle.drawings.specs.Signs.{marks}
use Rattle.drawings.specs.Readings.{Reads}
use Rattle.texts.proofs.mask.read_mask_in.Goals as goal

pub returns-clause-mask : goal.returns-clause-mask
returns-clause-mask c =
    let drawing = c.in_ok-drawing.drawing in
    let drawn = ap (map string_bytes) c.as_slice.ensures.value ∙ c.in_ok-drawn.ensures in
    (drawing, subst (λ (ls : List (List ℕ)). Reads (marks 1 ls) (Ok drawing)) drawn c.in_ok-drawing.ensures, c.in_ok-mask_of.ensures)

pub returns-in_err-mask_of-clause-fault : goal.returns-in_err-mask_of-clause-fault
returns-in_err-mask_of-clause-fault c =
    let drawing = c.in_ok-drawing.drawing in
    let drawn = ap (map string_bytes) c.as_slice.ensures.value ∙ c.in_ok-drawn.ensures in
    let p = err_from_is_err_and c.from_residual-in_err-mask_of.result c.from_residual-in_err-mask_of.ensures.1 in
    rw p.1 (inr (inr (drawing, c.in_err-mask_of.field-0.0, subst (λ (ls : List (List ℕ)). Reads (marks 1 ls) (Ok drawing)) drawn c.in_ok-drawing.ensures, c.in_err-mask_of.ensures, p.2)))
