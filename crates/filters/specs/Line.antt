-- What a line of the table holds.
--     or_else f z o               the cell that o has, as f reads it, or z
--     padded f z s y i            column i of row y, with 15 columns more on either side
--     place s above c l           column c of line l: row l - above of the sheet, with 15 columns before it
--     UnderCell k f z a o         a lies under the cell that o has, or under z
--     entry k f table x           what entry x of the table means
--     Beside f t t' a b           the entries before a and from b on are the same in t and t'
--     Runs k f G p w t start n    the entries of the first n lengths are the greatest lower bounds of their runs
--     Holds k f z s p w t start l the entries from start on are those of line l of the sheet s, places without a cell standing as z
use Rattle.std.specs.Prelude.{◌≡◌, ℕ, ◌+◌, ◌-◌, ◌*◌, ◌<◌, ◌≤◌, cond, ◌||◌, List, length, Some, None, Option, nat_lt}
use Rattle.cells.specs.Lattice.{Lattice, Under}
use Rattle.sheets.specs.Sheet.{Sheet}
use Rattle.plans.specs.declared.plan.Plan.{Plan}
use Rattle.plans.specs.Plan.{length_of}
use Rattle.plans.specs.Shown.{lengths_of}
use Rattle.filters.specs.Side.{Best, cell_at}

-- the cell of a place as f reads it, or z where it has none
abbrev pub or_else : {K C : Type 0} → (K → C) → C → Option K → C
or_else f z None = z
or_else f z (Some c) = f c

-- column i of a table line is column i - 15 of the sheet; places without a cell stand as z
abbrev pub padded : {K C : Type 0} → (K → C) → C → Sheet K → ℕ → ℕ → C
padded f z s y i = cond (nat_lt i 15) z (or_else f z (s.cell (i - 15) y))

-- the sheet with 15 columns before it and `above` rows over it, in which there are no cells
abbrev pub place : {K : Type 0} → Sheet K → ℕ → ℕ → ℕ → Option K
place s above c l = cond (nat_lt c 15 || nat_lt l above) None (s.cell (c - 15) (l - above))

-- a lies under the cell of a place, or under z where it has none
abbrev pub UnderCell : {K C : Type 0} → Lattice C → (K → C) → C → C → Option K → Type 0
UnderCell k f z a o = Under k a (or_else f z o)

-- what the table holds at x; past its end it is taken as padded
abbrev pub entry : {K C : Type 0} → Lattice C → (K → C) → List K → ℕ → C
entry k f table x = cell_at f k.greatest table x

-- what was written over t, which is t' now, lies from a on and before b
pub record Beside {K C : Type 0} (f : K → C) (t t' : List K) (a b : ℕ) : Type 0 where
  pub before : (z : C) (x : ℕ) → x < a → cell_at f z t' x ≡ cell_at f z t x
  pub after : (z : C) (x : ℕ) → b ≤ x → cell_at f z t' x ≡ cell_at f z t x

-- The entry for length i and column c is the greatest lower bound of its run, the places from c on, of which there are
-- as many as length i says. G x a says that a lies under place x.
abbrev pub Runs : {K C : Type 0} → Lattice C → (K → C) → (ℕ → C → Type 0) → Plan → ℕ → List K → ℕ → ℕ → Type 0
Runs k f G p w table start n =
    (i : ℕ) → i < n → (c : ℕ) → c + length_of p i ≤ w + 30 →
    Best k (λ a. (j : ℕ) → j < length_of p i → G (c + j) a) (entry k f table (start + i * (w + 30) + c))

-- the runs are those of the cells of line l
abbrev pub Holds : {K C : Type 0} → Lattice C → (K → C) → C → Sheet K → Plan → ℕ → List K → ℕ → ℕ → Type 0
Holds k f z s p w table start l = Runs k f (λ x a. UnderCell k f z a (place s p.above x l)) p w table start (length (lengths_of p))
