-- When two sheets are equal.
use Rattle.std.proofs.Common.{◌≡◌, ℕ}
use Rattle.sheets.specs.Sheet.{Sheet}

-- sheets of one size that agree at every place
pub same_sheet : {C : Type 0} (s t : Sheet C) → s.width ≡ t.width → s.height ≡ t.height →
    ((x y : ℕ) → s.cell x y ≡ t.cell x y) → s ≡ t
same_sheet s t w h e = λ i. record { width = w i; height = h i; cell = λ x y. e x y i }
