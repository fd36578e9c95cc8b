-- The mask of a list of points.
--     with_point rows p  the rows with the point p
--     drawn ps           the rows with just the points of the list
--     mask_by rows ps e  the mask with the rows, whose points are ps, if there are any
--     mask_of ps         the mask with the points of the list
use Rattle.std.specs.Prelude.{◌≡◌, ℕ, List, [], ◌∷◌, replicate, pos, ◌+ℤ◌, Some, None, Option, fold, refl, unsigned_abs, slice_index, slice_set}
use Rattle.std.proofs.Common.{sym, ◌∙◌, subst}
use Rattle.bits.specs.Bit.{with_bit}
use Rattle.masks.specs.Rows.{points}
use Rattle.masks.specs.declared.point.Point.{Point}
use Rattle.masks.specs.declared.mask.Mask.{Mask}

-- bit u + 15 of word v + 15
abbrev pub with_point : List ℕ → Point → List ℕ
with_point rows p =
    let r = unsigned_abs (p.v +ℤ pos 15) in
    slice_set rows r (with_bit (unsigned_abs (p.u +ℤ pos 15)) (slice_index rows r))

unfoldable pub drawn : List Point → List ℕ
drawn ps = fold with_point (replicate 31 0) ps

abbrev pub Some_point : List Point → Type 0
Some_point [] = ⊥
Some_point (p ∷ ps) = Unit {0}

-- a mask is never without a point
abbrev pub mask_by : (rows : List ℕ) (ps : List Point) → points rows 31 ≡ ps → Option Mask
mask_by rows [] e = None
mask_by rows (p ∷ ps) e = Some (record { rows = rows; some = λ none. subst Some_point (sym e ∙ none) tt })

abbrev pub mask_of : List Point → Option Mask
mask_of ps = mask_by (drawn ps) (points (drawn ps) 31) refl
