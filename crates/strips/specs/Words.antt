-- A strip's bytes, four to a word.
--     word a b c d       the word of four bytes, the highest first
--     word_bytes w       the four bytes of a word
--     words bs           the words that whole fours of bytes make
--     numbers fs         the words of fours of bytes, as numbers
--     over bs            how many bytes stand behind the last word
--     kind w, body w     bits 31 to 28 of a word, and the rest
use Rattle.std.specs.Prelude.{ℕ, ◌+◌, ◌*◌, ◌/◌, ◌%◌, ◌^◌, List, [], ◌∷◌, length, map}
use Rattle.std.specs.Int.{w32, from_be_bytes}

abbrev pub word : ℕ → ℕ → ℕ → ℕ → ℕ
word a b c d = a * 2 ^ 24 + b * 2 ^ 16 + c * 2 ^ 8 + d

abbrev pub word_bytes : ℕ → List ℕ
word_bytes w = w / 2 ^ 24 ∷ w / 2 ^ 16 % 2 ^ 8 ∷ w / 2 ^ 8 % 2 ^ 8 ∷ w % 2 ^ 8 ∷ []

unfoldable pub words : List ℕ → List ℕ
words (a ∷ b ∷ c ∷ d ∷ bs) = word a b c d ∷ words bs
words _ = []

-- the highest byte of each stands first
abbrev pub numbers : List (List ℕ) → List ℕ
numbers fs = map (from_be_bytes w32) fs

abbrev pub over : List ℕ → ℕ
over bs = length bs % 4

abbrev pub kind : ℕ → ℕ
kind w = w / 2 ^ 28

abbrev pub body : ℕ → ℕ
body w = w % 2 ^ 28
