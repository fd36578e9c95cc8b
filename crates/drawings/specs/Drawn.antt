-- The mask that a drawing draws, and how its faults are told to who drew it.
--     blamed d f       the fault f of the mask of the drawing d, with the place of the point that is to blame
--     why_text f       why no mask can be made, byte by byte
--     Masks d r        r is the mask of the drawing's points, or the fault that they have
use Rattle.std.specs.Prelude.{◌≡◌, ℕ, List, codes, Some, None, Ok, Err, vec_items, Result}
use Rattle.masks.specs.Faults.{refused}
use Rattle.masks.specs.Rows.{Drawn}
use Rattle.masks.specs.declared.fault.MaskFault.{MaskFault}
use Rattle.masks.specs.declared.fault.MaskFault.TheVariants.{NoPoints, Beyond}
use Rattle.masks.specs.declared.mask.Mask.{Mask}
use Rattle.drawings.specs.Readings.{place_at}
use Rattle.drawings.specs.declared.drawing.Drawing.{Drawing}
use Rattle.drawings.specs.declared.drawn.DrawnFault.{DrawnFault}
use Rattle.drawings.specs.declared.drawn.DrawnFault.TheVariants.{Refused}

-- a point that lies beyond is told by the place where it was drawn
abbrev pub blamed : Drawing → MaskFault → DrawnFault
blamed d NoPoints = Refused NoPoints None
blamed d (Beyond i) = Refused (Beyond i) (place_at d i)

abbrev pub why_text : MaskFault → List ℕ
why_text NoPoints = codes "the drawing has no point"
why_text (Beyond i) = codes "the point lies more than 15 from the origin"

-- the mask of just the points, or the first ground on which they are refused
abbrev pub Masks : Drawing → Result Mask DrawnFault → Type 0
Masks d (Ok m) = (refused (vec_items d.points) ≡ None) × Drawn m.rows (vec_items d.points)
Masks d (Err f) = (e : MaskFault) × (refused (vec_items d.points) ≡ Some e) × (f ≡ blamed d e)
