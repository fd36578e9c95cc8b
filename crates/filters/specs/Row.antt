-- Where a chord finds its runs in the table, and what the chords of a row give together.
--     slot_of rows oldest r           the slot of the ring that has row r, the oldest line standing in the slot `oldest`
--     base_of rows n stride oldest c  where the run of chord c for column 0 stands
--     run_of f z t p stride oldest x q   what chord q gives at column x
--     picked k F n                    the pick of F 0 to F n
use Rattle.std.specs.Prelude.{ℕ, zero, suc, ◌+◌, ◌-◌, ◌*◌, cond, List, length, nat_lt}
use Rattle.cells.specs.Lattice.{Lattice}
use Rattle.plans.specs.declared.plan.Plan.{Plan}
use Rattle.plans.specs.declared.placed.PlannedChord.{PlannedChord}
use Rattle.plans.specs.Plan.{chord_of}
use Rattle.plans.specs.Shown.{lengths_of}
use Rattle.filters.specs.Side.{cell_at}

-- the slots follow each other in a ring
abbrev pub slot_of : ℕ → ℕ → ℕ → ℕ
slot_of rows oldest r = cond (nat_lt (oldest + r) rows) (oldest + r) (oldest + r - rows)

-- a slot has n lengths, each of `stride` entries
abbrev pub base_of : ℕ → ℕ → ℕ → ℕ → PlannedChord → ℕ
base_of rows n stride oldest c = (slot_of rows oldest c.row * n + c.index) * stride + c.column

-- what chord q of the plan gives at column x
abbrev pub run_of : {K C : Type 0} → (K → C) → C → List K → Plan → ℕ → ℕ → ℕ → ℕ → C
run_of f z table p stride oldest x q = cell_at f z table (base_of p.rows (length (lengths_of p)) stride oldest (chord_of p q) + x)

-- the pick of F 0, F 1 .. F n, from the left
abbrev pub picked : {C : Type 0} → Lattice C → (ℕ → C) → ℕ → C
picked k F zero = F 0
picked k F (suc n) = k.meet (picked k F n) (F (suc n))
