-- How what is wrong with a drawing is told, byte by byte.
--     place_text p       where a character stands
--     reading_text f     what is wrong with the drawing
--     drawn_text f       why it draws no mask
use Rattle.std.specs.Prelude.{ℕ, List, ◌++◌, codes, Some, None}
use Rattle.std.specs.Fmt.{decimal}
use Rattle.masks.specs.Faults.{number}
use Rattle.drawings.specs.Drawn.{why_text}
use Rattle.drawings.specs.declared.drawing.Place.{Place}
use Rattle.drawings.specs.declared.drawing.DrawingFault.{DrawingFault}
use Rattle.drawings.specs.declared.drawing.DrawingFault.TheVariants.{OtherCharacter, NoOrigin, SecondOrigin, Memory}
use Rattle.drawings.specs.declared.drawn.DrawnFault.{DrawnFault}
use Rattle.drawings.specs.declared.drawn.DrawnFault.TheVariants.{Unread, Refused}

abbrev pub place_text : Place → List ℕ
place_text p = codes "line " ++ decimal p.line ++ codes " column " ++ decimal p.column

abbrev pub reading_text : DrawingFault → List ℕ
reading_text (OtherCharacter p) = place_text p ++ codes ": a drawing has only # . @ and o"
reading_text NoOrigin = codes "the origin is not marked, @ where it is a point and o where it is not"
reading_text (SecondOrigin p) = place_text p ++ codes ": the origin is marked a second time"
reading_text Memory = codes "there is not enough memory"

-- a mask that is refused is told with the number of its refusal, and with the place of the point that is to blame
abbrev pub drawn_text : DrawnFault → List ℕ
drawn_text (Unread f) = reading_text f
drawn_text (Refused f None) = codes "refused " ++ decimal (number f) ++ codes ": " ++ why_text f
drawn_text (Refused f (Some p)) = codes "refused " ++ decimal (number f) ++ codes ": " ++ place_text p ++ codes ": " ++ why_text f
