-- What is left of a strip, and its first word.
use Rattle.std.proofs.Common.{◌≡◌, ℕ, ◌+◌, List, [], ◌∷◌, length, Result, Ok, Err, refl, arith}
use Rattle.std.specs.Int.{w32, from_be_bytes}
use Rattle.strips.specs.Words.{numbers}
use Rattle.strips.specs.Reading.{from, word_due}
use Rattle.strips.specs.declared.fault.StripFault.{StripFault}
use Rattle.strips.specs.declared.fault.StripFault.TheVariants.{At}
use Rattle.strips.specs.declared.fault.Ground.TheVariants.{CutShort}

-- the word that is due is the first that is left
pub word_first : (i n : ℕ) (fs rest : List (List ℕ)) (f : List ℕ) → fs ≡ f ∷ rest → n ≡ from_be_bytes w32 f → word_due (from i (numbers fs)) ≡ Ok (n, from (i + 1) (numbers rest))
unfolding word_due
word_first i n fs rest f e h = rw (e, h) refl

-- or it is cut short
pub word_none : {A : Type 0} (i : ℕ) (fs : List (List ℕ)) (f : StripFault) → length fs ≡ 0 → ◌≡◌ {A = Result A StripFault} (Err f) (Err (At CutShort i)) → word_due (from i (numbers fs)) ≡ Err f
unfolding word_due
word_none i [] f e h = let cut : At CutShort i ≡ f = cc in rw cut refl
word_none i (w ∷ fs) f e h = absurd (omega arith)
