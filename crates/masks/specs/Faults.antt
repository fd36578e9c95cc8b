-- Why a mask cannot be made from a list of points.
--     refused ps         the first ground on which the list is refused, if any
--     number f           the number of a refusal
use Rattle.std.specs.Prelude.{ℕ, cond, List, length, Some, None, Option, ◌==◌, nat_lt}
use Rattle.std.specs.List.{prefix_len}
use Rattle.masks.specs.Points.{near}
use Rattle.masks.specs.declared.point.Point.{Point}
use Rattle.masks.specs.declared.fault.MaskFault.{MaskFault}
use Rattle.masks.specs.declared.fault.MaskFault.TheVariants.{NoPoints, Beyond}

-- no points at all comes first; then the first point that is not near, told by its place in the list
abbrev pub refused : List Point → Option MaskFault
refused ps =
    cond (length ps == 0) (Some NoPoints)
    (cond (nat_lt (prefix_len near ps) (length ps)) (Some (Beyond (prefix_len near ps))) None)

-- 7: made from no points; 8: a point lies beyond 15 either way
abbrev pub number : MaskFault → ℕ
number NoPoints = 7
number (Beyond place) = 8
