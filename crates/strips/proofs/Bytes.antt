-- Whole fours of bytes, as numbers, are the words that they make.
use Rattle.std.proofs.Common.{◌≡◌, ℕ, zero, suc, ◌/◌, List, [], ◌∷◌, length, refl, ap₂, arith}
use Rattle.std.specs.Int.{w32, from_be_bytes}
use Rattle.std.specs.Simd.{first_chunks}
use Rattle.strips.specs.Words.{word, words, numbers}

one_word : (a b c d : ℕ) → from_be_bytes w32 (a ∷ b ∷ c ∷ d ∷ []) ≡ word a b c d
one_word a b c d = omega arith

pub chunks_words : (k : ℕ) (bs : List ℕ) → length bs / 4 ≡ k → numbers (first_chunks 4 k bs) ≡ words bs
unfolding words
chunks_words zero [] h = refl
chunks_words zero (a ∷ []) h = refl
chunks_words zero (a ∷ b ∷ []) h = refl
chunks_words zero (a ∷ b ∷ c ∷ []) h = refl
chunks_words zero (a ∷ b ∷ c ∷ d ∷ bs) h = absurd (omega arith)
chunks_words (suc k) [] h = absurd (omega arith)
chunks_words (suc k) (a ∷ []) h = absurd (omega arith)
chunks_words (suc k) (a ∷ b ∷ []) h = absurd (omega arith)
chunks_words (suc k) (a ∷ b ∷ c ∷ []) h = absurd (omega arith)
chunks_words (suc k) (a ∷ b ∷ c ∷ d ∷ bs) h = ap₂ (λ (w : ℕ) (ws : List ℕ). w ∷ ws) (one_word a b c d) (chunks_words k bs (omega arith))
