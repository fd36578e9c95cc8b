-- The examples on a sheet of flags, mark by mark.
use Rattle.std.proofs.Common.{◌&&◌, ◌||◌, [], ◌∷◌, Some, sym, refl, ap, ◌∙◌, ap₂}
use mathlib.Core.Path.{fun_ext}
use Rattle.bits.proofs.SingleBits.{bit_of_and, bit_of_or}
use Rattle.cells.specs.Kinds.{marks_of}
use Rattle.std.proofs.Math.Bool.{and-true, or-false}
use Rattle.morphology.specs.Bounds.{meets}
use Rattle.morphology.specs.Filters.{gathered}
use Rattle.morphology.specs.Examples.{FlagExamples}

pub flag_examples : FlagExamples
unfolding meets gathered
flag_examples = record {
  flags_dilated = (
    refl,
    ap₂ (λ a b. Some a ∷ Some b ∷ [])
        (fun_ext (λ m. or-false (marks_of 1 m)))
        (fun_ext (λ m. ap (λ b. marks_of 2 m || b) (or-false (marks_of 1 m)) ∙ sym (bit_of_or m.0 2 1))),
  );
  flags_eroded = (
    refl,
    ap₂ (λ a b. Some a ∷ Some b ∷ [])
        (fun_ext (λ m. ap (λ b. marks_of 1 m && b) (and-true (marks_of 2 m)) ∙ sym (bit_of_and m.0 1 2)))
        (fun_ext (λ m. and-true (marks_of 2 m))),
  );
}
