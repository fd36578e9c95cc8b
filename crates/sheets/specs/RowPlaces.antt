-- That rows are a layout.
--     rows_within  every place inside has its index within the room
--     rows_apart   two places inside never share an index
use Rattle.std.proofs.Common.{ℕ, ◌*◌, ◌/◌, ◌%◌, sym, ap, ◌∙◌, arith}
use Rattle.std.proofs.lemmas.Nat.{mul-add-lt, div-mul-add, mod-mul-add}
use Rattle.sheets.specs.Rows.{row_place}
use Rattle.sheets.specs.Layout.{Apart, Within}

-- column and row are the rest and the quotient of the index
pub rows_apart : (w h : ℕ) → Apart w h (row_place w)
rows_apart w h i j x y a b c d e = (
  sym (mod-mul-add j w i a) ∙ ap (λ (n : ℕ). n % w) e ∙ mod-mul-add y w x c,
  sym (div-mul-add j w i a) ∙ ap (λ (n : ℕ). n / w) e ∙ div-mul-add y w x c,
)

pub rows_within : (w h : ℕ) → Within w h (row_place w) (h * w)
rows_within w h x y a b = omega (arith, mul-add-lt y w x h b a)
