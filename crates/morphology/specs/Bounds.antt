-- The meet and the join of the cells at some places, of which each has a cell or none.
--     meets k os               the meet of the cells of os, or the greatest cell if there are none
--     joins k os               the join of the cells of os, or the least cell if there are none
--     Lower k os a             a lies under every cell of os
--     GreatestLower k os m     m is a lower bound of os, and every lower bound of os lies under m
--     Upper k os a             every cell of os lies under a
--     LeastUpper k os m        m is an upper bound of os, and lies under every upper bound of os
use Rattle.std.specs.Prelude.{List, [], ◌∷◌, Some, None, Option}
use Rattle.cells.specs.Lattice.{Lattice, Under, dual}
use Rattle.masks.specs.Points.{Among}

-- the meet of the cells; a place without a cell is left out
unfoldable pub meets : {C : Type 0} → Lattice C → List (Option C) → C
meets k [] = k.greatest
meets k (None ∷ os) = meets k os
meets k (Some c ∷ os) = k.meet c (meets k os)

-- the join of the cells: the meet, seen from the other side
abbrev pub joins : {C : Type 0} → Lattice C → List (Option C) → C
joins k os = meets (dual k) os

-- a lies under every cell
abbrev pub Lower : {C : Type 0} → Lattice C → List (Option C) → C → Type 0
Lower {C} k os a = (c : C) → Among os (Some c) → Under k a c

-- the greatest of the cells that lie under every cell
pub record GreatestLower {C : Type 0} (k : Lattice C) (os : List (Option C)) (m : C) : Type 0 where
  pub lower : Lower k os m
  pub greatest : (a : C) → Lower k os a → Under k a m

-- every cell lies under a
abbrev pub Upper : {C : Type 0} → Lattice C → List (Option C) → C → Type 0
Upper {C} k os a = (c : C) → Among os (Some c) → Under k c a

-- the least of the cells under which every cell lies
pub record LeastUpper {C : Type 0} (k : Lattice C) (os : List (Option C)) (m : C) : Type 0 where
  pub upper : Upper k os m
  pub least : (a : C) → Upper k os a → Under k m a
