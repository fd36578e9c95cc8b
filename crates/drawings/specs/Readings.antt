-- What a drawing means: the points that it draws, or the first thing that is wrong with it.
--     origin_of ms       the place of the one mark of the origin
--     point_of o p       the point at the place p, seen from the origin's place o
--     origin_read ms     the origin's place, or the first fault
--     Reads ms r         r is an answer to the marks ms
--     place_at d i       where a point of a drawing was drawn
use Rattle.std.specs.Prelude.{◌≡◌, ℕ, ◌-◌, ◌^◌, not, ◌⊎◌, List, [], ◌∷◌, map, ℤ, pos, ◌-ℤ◌, neg_ℤ, Some, None, Ok, Err, vec_items, filter, Option, Result}
use Rattle.std.specs.Int.{int_min, int_max}
use Rattle.std.specs.List.{slice_get, find}
use Rattle.std.specs.Option.{option_map}
use Rattle.masks.specs.declared.point.Point.{Point}
use Rattle.drawings.specs.Signs.{is_sign, is_point, is_origin}
use Rattle.drawings.specs.declared.drawing.Place.{Place}
use Rattle.drawings.specs.declared.drawing.Mark.{Mark}
use Rattle.drawings.specs.declared.drawing.Drawing.{Drawing}
use Rattle.drawings.specs.declared.drawing.DrawingFault.{DrawingFault}
use Rattle.drawings.specs.declared.drawing.DrawingFault.TheVariants.{OtherCharacter, NoOrigin, SecondOrigin, Memory}

-- the first mark that is none of the four signs
abbrev pub first_other : List Mark → Option Mark
first_other ms = find (λ m. not (is_sign m.sign)) ms

-- the origin is marked once
abbrev pub only : List Mark → Result Place DrawingFault
only [] = Err NoOrigin
only (m ∷ []) = Ok m.place
only (m ∷ n ∷ ms) = Err (SecondOrigin n.place)

abbrev pub origin_of : List Mark → Result Place DrawingFault
origin_of ms = only (filter (λ m. is_origin m.sign) ms)

-- the marks that are points, in reading order
abbrev pub point_marks : List Mark → List Mark
point_marks ms = filter (λ m. is_point m.sign) ms

-- a difference, held within the numbers of 32 bits
abbrev pub offset : ℕ → ℕ → ℤ
offset from to = int_max (neg_ℤ (pos (2 ^ 31))) (int_min (pos to -ℤ pos from) (pos (2 ^ 31 - 1)))

abbrev pub point_of : Place → Place → Point
point_of o p = record { u = offset o.column p.column; v = offset o.line p.line }

abbrev pub points_from : List Mark → Place → List Point
points_from ms o = map (λ m. point_of o m.place) (point_marks ms)

-- a character that is no sign is told first; then an origin that is missing or marked twice
abbrev pub told_first : Option Mark → Result Place DrawingFault → Result Place DrawingFault
told_first None r = r
told_first (Some m) r = Err (OtherCharacter m.place)

abbrev pub origin_read : List Mark → Result Place DrawingFault
origin_read ms = told_first (first_other ms) (origin_of ms)

-- what a reader may answer of the marks: the points that they draw, the fault that they have, or want of memory
abbrev pub Reads : List Mark → Result Drawing DrawingFault → Type 0
Reads ms (Ok d) = (o : Place) × (origin_read ms ≡ Ok o) × (vec_items d.dots ≡ point_marks ms) × (vec_items d.points ≡ points_from ms o)
Reads ms (Err f) = (f ≡ Memory) ⊎ (origin_read ms ≡ Err f)

-- where the point at place i of the list was drawn
abbrev pub place_at : Drawing → ℕ → Option Place
place_at d i = option_map (λ m. m.place) (slice_get (vec_items d.dots) i)
