-- Words as bytes, and back.
use Rattle.std.proofs.Common.{◌≡◌, ℕ, suc, ◌*◌, ◌/◌, ◌%◌, ◌^◌, ◌<◌, List, [], ◌∷◌, ◌++◌, length, get_or, refl, ap, ◌∙◌, arith}
use Rattle.std.specs.List.{flat_map}
use Rattle.std.proofs.lemmas.List.Concat.{flat_map-cons}
use Rattle.strips.specs.Words.{word, word_bytes, words}
use Rattle.strips.proofs.Taken.{AreWords}

abbrev pub AreBytes : List ℕ → Type 0
AreBytes bs = (i : ℕ) → get_or bs i 0 < 256

-- the words of bytes have 32 bits
pub words_fit : (bs : List ℕ) → AreBytes bs → AreWords (words bs)
unfolding words
words_fit [] h = tt
words_fit (a ∷ []) h = tt
words_fit (a ∷ b ∷ []) h = tt
words_fit (a ∷ b ∷ c ∷ []) h = tt
words_fit (a ∷ b ∷ c ∷ d ∷ bs) h =
    let fit : word a b c d < 2 ^ 32 = omega (arith, h 0, h 1, h 2, h 3) in
    (fit, words_fit bs (λ i. h (suc (suc (suc (suc i))))))

bytes_of : (a b c d : ℕ) → a < 256 → b < 256 → c < 256 → d < 256 → word_bytes (word a b c d) ≡ a ∷ b ∷ c ∷ d ∷ []
bytes_of a b c d ha hb hc hd =
    let w = word a b c d in
    let e0 : w / 2 ^ 24 ≡ a = omega arith in
    let e1 : w / 2 ^ 16 % 2 ^ 8 ≡ b = omega arith in
    let e2 : w / 2 ^ 8 % 2 ^ 8 ≡ c = omega arith in
    let e3 : w % 2 ^ 8 ≡ d = omega arith in
    rw (e0, e1, e2, e3) refl

-- whole words of bytes, as bytes again
pub bytes_again : (bs : List ℕ) → AreBytes bs → length bs % 4 ≡ 0 → flat_map word_bytes (words bs) ≡ bs
unfolding words
bytes_again [] h e = refl
bytes_again (a ∷ []) h e = absurd (omega arith)
bytes_again (a ∷ b ∷ []) h e = absurd (omega arith)
bytes_again (a ∷ b ∷ c ∷ []) h e = absurd (omega arith)
bytes_again (a ∷ b ∷ c ∷ d ∷ bs) h e =
    let rest = bytes_again bs (λ i. h (suc (suc (suc (suc i))))) (omega arith) in
    flat_map-cons word_bytes (word a b c d) (words bs)
    ∙ ap (λ (v : List ℕ). v ++ flat_map word_bytes (words bs)) (bytes_of a b c d (h 0) (h 1) (h 2) (h 3))
    ∙ ap (λ (v : List ℕ). a ∷ b ∷ c ∷ d ∷ v) rest

word_of : (w : ℕ) → word (w / 2 ^ 24) (w / 2 ^ 16 % 2 ^ 8) (w / 2 ^ 8 % 2 ^ 8) (w % 2 ^ 8) ≡ w
word_of w = omega arith

-- words, as bytes and as words again
pub words_again : (ws : List ℕ) → words (flat_map word_bytes ws) ≡ ws
unfolding words
words_again [] = refl
words_again (w ∷ ws) =
    ap words (flat_map-cons word_bytes w ws)
    ∙ ap (λ (v : ℕ). v ∷ words (flat_map word_bytes ws)) (word_of w)
    ∙ ap (λ (v : List ℕ). w ∷ v) (words_again ws)

pub length_spelled : (ws : List ℕ) → length (flat_map word_bytes ws) ≡ 4 * length ws
length_spelled [] = refl
length_spelled (w ∷ ws) =
    let e = ap (λ (v : List ℕ). length v) (flat_map-cons word_bytes w ws) in
    e ∙ omega (arith, length_spelled ws)
