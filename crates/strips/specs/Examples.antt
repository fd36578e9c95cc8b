-- A strip, and the job that it tells.
--     worked_strip       nine words, byte by byte
--     worked_job         gray, 3 by 1, opened under a mask of two points
use Rattle.std.specs.Prelude.{ℕ, List, [], ◌∷◌, ◌++◌, None}
use Rattle.morphology.specs.declared.call.Filter.TheVariants.{Open}
use Rattle.strips.specs.Jobs.{Job}
use Rattle.strips.specs.Laws.{Told}
use Rattle.strips.specs.declared.kind.CellKind.TheVariants.{Gray}
use Rattle.strips.specs.declared.parts.Step.TheVariants.{Point, Call}

-- head and cells, the three cells, two points and a call, the end
abbrev pub worked_strip : List ℕ
worked_strip =
    0x11 ∷ 0x00 ∷ 0x30 ∷ 0x01 ∷ 0x20 ∷ 0x00 ∷ 0x00 ∷ 0x03 ∷ []
    ++ (0 ∷ 0 ∷ 0 ∷ 7 ∷ 0 ∷ 0 ∷ 0 ∷ 9 ∷ 0 ∷ 0 ∷ 0 ∷ 4 ∷ []
    ++ (0x50 ∷ 0x00 ∷ 0x01 ∷ 0xef ∷ 0x50 ∷ 0x00 ∷ 0x02 ∷ 0x0f ∷ 0x60 ∷ 0x00 ∷ 0x00 ∷ 0x03 ∷ []
    ++ 0x70 ∷ 0x00 ∷ 0x00 ∷ 0x00 ∷ []))

abbrev pub worked_job : Job
worked_job = record {
  kind = Gray;
  width = 3;
  height = 1;
  raws = 7 ∷ 9 ∷ 4 ∷ [];
  window = None;
  steps = Point (record { u = 15; v = 15 }) ∷ Point (record { u = 16; v = 15 }) ∷ Call Open ∷ [];
}

abbrev pub Worked : Type 0
Worked = Told worked_strip worked_job
