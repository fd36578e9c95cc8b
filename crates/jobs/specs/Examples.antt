-- The listing of the worked job: gray 7 9 4, opened under a point and its east neighbour.
--     worked_lines       its four lines
use Rattle.std.specs.Prelude.{◌≡◌, List, [], ◌∷◌, Ok}
use Rattle.morphology.specs.declared.call.Filter.TheVariants.{Open}
use Rattle.morphology.specs.Refusals.{sized}
use Rattle.strips.specs.Examples.{worked_job}
use Rattle.strips.specs.declared.kind.CellKind.TheVariants.{Gray}
use Rattle.jobs.specs.Listings.{listed}
use Rattle.jobs.specs.declared.line.Line.{Line}
use Rattle.jobs.specs.declared.line.Line.TheVariants.{Sheet, Mask, Call, Cells}

abbrev pub worked_lines : List Line
worked_lines = Sheet Gray (sized 3 1) ∷ Mask 2 1 ∷ Call Open (Ok 64) ∷ Cells Gray (7 ∷ 7 ∷ 4 ∷ []) ∷ []

abbrev pub Worked : Type 0
Worked = listed worked_job ≡ worked_lines
