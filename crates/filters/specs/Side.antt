-- One side of a lattice, and greatest lower bounds on it.
--     side lower k       k, or its dual: the side on which a filter works
--     Best k S m         m is the greatest of the cells that S admits
--     cell_at f z xs x   the cell that entry x of a list means
use Rattle.std.specs.Prelude.{◌↔◌, ℕ, Bool, true, false, List, map, slice_index_or}
use Rattle.cells.specs.Lattice.{Lattice, Under, dual}

-- an erosion works on the lower side, by meets; a dilation on the other, where joins are the meets
abbrev pub side : {C : Type 0} → Bool → Lattice C → Lattice C
side true k = k
side false k = dual k

-- S admits just the cells under m. Where S a says that a lies under each of some cells, m is their greatest lower bound.
abbrev pub Best : {C : Type 0} → Lattice C → (C → Type 0) → C → Type 0
Best {C} k S m = (a : C) → Under k a m ↔ S a

-- entry x of the list as f reads it, or z past the end
abbrev pub cell_at : {K C : Type 0} → (K → C) → C → List K → ℕ → C
cell_at f z xs x = slice_index_or (map f xs) x z
