-- The four kinds of cell: the lattice of each, and the cell that a stored value means.
--     grays, gray_cell         whole numbers from 0 to 255
--     heights, height_cell     signed numbers of 32 bits, in millimetres
--     marks, marks_of          sets of eight marks
--     rank, counted            the rank of a return's bits, and what stored bits count as
--     returns, return_cell     echo strengths, by rank
use Rattle.std.specs.Prelude.{ℕ, ◌-◌, ◌^◌, ◌<◌, cond, ℤ, pos, ◌-ℤ◌, neg_ℤ, ◌≤ℤ◌, ◌==◌, nat_le, nat_lt}
use Rattle.std.specs.Int.Signed.{le_z_yes}
use Rattle.bits.specs.Bit.{bit}
use Rattle.cells.specs.Lattice.{Lattice}
use Rattle.cells.specs.Chain.{Within, chain, clamped}
use Rattle.cells.specs.Sets.{Subset, subsets}

-- Gray: a whole number from 0 to 255.
abbrev pub gray_bounds : pos 0 ≤ℤ pos 255
gray_bounds = le_z_yes tt

abbrev pub GrayCell : Type 0
GrayCell = Within (pos 0) (pos 255)

abbrev pub grays : Lattice GrayCell
grays = chain (pos 0) (pos 255) gray_bounds

abbrev pub gray_cell : ℕ → GrayCell
gray_cell n = clamped (pos 0) (pos 255) gray_bounds (pos n)

-- Height: a signed number of 32 bits, in millimetres.
abbrev pub height_bounds : neg_ℤ (pos (2 ^ 31)) ≤ℤ pos (2 ^ 31 - 1)
height_bounds = le_z_yes tt

abbrev pub HeightCell : Type 0
HeightCell = Within (neg_ℤ (pos (2 ^ 31))) (pos (2 ^ 31 - 1))

abbrev pub heights : Lattice HeightCell
heights = chain (neg_ℤ (pos (2 ^ 31))) (pos (2 ^ 31 - 1)) height_bounds

abbrev pub height_cell : ℤ → HeightCell
height_cell z = clamped (neg_ℤ (pos (2 ^ 31))) (pos (2 ^ 31 - 1)) height_bounds z

-- Flags: a set of eight marks, numbered from 0 to 7.
abbrev pub Mark : Type 0
Mark = (i : ℕ) × (i < 8)

abbrev pub Marks : Type 0
Marks = Subset Mark

abbrev pub marks : Lattice Marks
marks = subsets Mark

-- mark i stands in a byte where its bit i is 1
abbrev pub marks_of : ℕ → Marks
marks_of n m = bit m.0 n

-- Return: an echo's strength, known by the rank of its bits. The bits below 2 ^ 31 are the numbers from zero up, with
-- infinity 0x7f800000 as the last; from 2 ^ 31 on stand the same numbers with a minus sign.
abbrev pub rank : ℕ → ℤ
rank b = cond (nat_lt b (2 ^ 31)) (pos b) (pos (2 ^ 31) -ℤ pos b)

-- what stored bits count as: not-a-number as the infinity of its sign, negative zero as zero, others as themselves
abbrev pub counted : ℕ → ℕ
counted b =
    cond (nat_lt b (2 ^ 31))
    (cond (nat_le b 0x7f800000) b 0x7f800000)
    (cond (b == 2 ^ 31) 0 (cond (nat_le b 0xff800000) b 0xff800000))

abbrev pub return_bounds : rank 0xff800000 ≤ℤ rank 0x7f800000
return_bounds = le_z_yes tt

abbrev pub ReturnCell : Type 0
ReturnCell = Within (rank 0xff800000) (rank 0x7f800000)

abbrev pub returns : Lattice ReturnCell
returns = chain (rank 0xff800000) (rank 0x7f800000) return_bounds

abbrev pub return_cell : ℕ → ReturnCell
return_cell b = clamped (rank 0xff800000) (rank 0x7f800000) return_bounds (rank (counted b))
