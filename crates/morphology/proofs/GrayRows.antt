-- The examples on gray sheets, worked out.
use Rattle.std.proofs.Common.{refl}
use Rattle.morphology.specs.Bounds.{meets}
use Rattle.morphology.specs.Filters.{gathered}
use Rattle.morphology.specs.Examples.{GrayExamples}

pub gray_examples : GrayExamples
unfolding meets gathered
gray_examples = record {
  three_eroded = (refl, refl);
  three_dilated = (refl, refl);
  three_opened = (refl, refl);
  three_closed = (refl, refl);
  three_mid = (refl, refl);
  three_opened_closed = (refl, refl);
  one_opened = (refl, refl);
  one_closed = (refl, refl);
  one_mid = (refl, refl);
}
