-- The search for the origin, taken up where it stands.
use Rattle.std.proofs.Common.{List, [], ◌∷◌, Some, None, Ok, Err, filter, Option, Result}
use Rattle.drawings.specs.Signs.{is_origin}
use Rattle.drawings.specs.Readings.{origin_of}
use Rattle.drawings.specs.declared.drawing.Place.{Place}
use Rattle.drawings.specs.declared.drawing.Mark.{Mark}
use Rattle.drawings.specs.declared.drawing.DrawingFault.{DrawingFault}
use Rattle.drawings.specs.declared.drawing.DrawingFault.TheVariants.{SecondOrigin}

-- the answer where one origin was found, or none, and these are still to come
abbrev after_one : Place → List Mark → Result Place DrawingFault
after_one p [] = Ok p
after_one p (n ∷ ns) = Err (SecondOrigin n.place)

abbrev pub resumed : Option Place → List Mark → Result Place DrawingFault
resumed None ms = origin_of ms
resumed (Some p) ms = after_one p (filter (λ m. is_origin m.sign) ms)
