-- The cell of a raw word, and the word by which a cell is listed.
--     cell_or_least k f o   the cell of a word that is read as o
--     gray_listed c         the word of a gray: its number
--     height_listed c       the word of a height: its number in two's complement
--     flags_listed m        the word of flags: bit i is 1 where mark i stands
--     bits_of z             the bits of a return of the rank z
--     return_listed c       the word of a return: the bits that have its rank
--     Names f g named       the words g of stored values are those of the cells that they mean, as f reads them
use Rattle.std.specs.Prelude.{◌≡◌, ℕ, suc, ◌+◌, ◌^◌, cond, List, [], ◌∷◌, ℤ, pos, negsuc, Some, None, Option, sum_by}
use Rattle.std.proofs.Common.{lit<}
use Rattle.cells.specs.Lattice.{Lattice}
use Rattle.cells.specs.Kinds.{GrayCell, HeightCell, Mark, Marks, ReturnCell}
use Rattle.cells.specs.Words.{unsigned}

-- by the word form of the kind; what is no cell, which a job that was read has not, counts as the least
abbrev pub cell_or_least : {K C : Type 0} → Lattice C → (K → C) → Option K → C
cell_or_least k f (Some a) = f a
cell_or_least k f None = k.least

abbrev pub gray_listed : GrayCell → ℕ
gray_listed c = unsigned c.number

abbrev pub height_listed : HeightCell → ℕ
height_listed c = unsigned c.number

abbrev pub eight : List Mark
eight = (0, lit< tt) ∷ (1, lit< tt) ∷ (2, lit< tt) ∷ (3, lit< tt) ∷ (4, lit< tt) ∷ (5, lit< tt) ∷ (6, lit< tt) ∷ (7, lit< tt) ∷ []

abbrev pub flags_listed : Marks → ℕ
flags_listed m = sum_by (λ i. cond (m i) (2 ^ i.0) 0) eight

-- from zero up the bits are the rank; below stand the same bits with the minus sign, which is bit 31
abbrev pub bits_of : ℤ → ℕ
bits_of (pos n) = n
bits_of (negsuc n) = 2 ^ 31 + suc n

abbrev pub return_listed : ReturnCell → ℕ
return_listed c = bits_of c.number

-- so a cell has one word, however it is stored
abbrev pub Names : {K C : Type 0} → (K → C) → (K → ℕ) → (C → ℕ) → Type 0
Names {K} f g named = (a : K) → g a ≡ named (f a)
