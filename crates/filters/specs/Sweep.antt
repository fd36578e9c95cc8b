-- What the sweep leaves in the sheet and in the table, row by row. Places without a cell stand as z.
--     Along k f z s p x y q a       a lies under the cells that chord q shows at (x, y)
--     Through k f z s p x y a       a lies under the cells that all chords show at (x, y)
--     SameFrom y s t                the sheets s and t are the same from row y on
--     next_slot rows slot           the slot after a slot of the ring
--     InRing k f z s p w t slot line n  the last n lines before `line` stand in the ring, and `line` is due at `slot`
--     Stands k f c s t slot line n  the same, by a course
--     Gathered k f z s p w t start y  from start on, the table has what the chords show in row y
--     Laid k f c s t start y        the same, by a course
use Rattle.std.specs.Prelude.{◌≡◌, ℕ, ◌+◌, ◌-◌, ◌*◌, ◌<◌, ◌≤◌, cond, List, length, nat_lt}
use Rattle.cells.specs.Lattice.{Lattice}
use Rattle.sheets.specs.Sheet.{Sheet}
use Rattle.plans.specs.declared.plan.Plan.{Plan}
use Rattle.plans.specs.Plan.{chord_of, long}
use Rattle.plans.specs.Shown.{lengths_of, chords_of}
use Rattle.filters.specs.declared.course.Course.{Course}
use Rattle.filters.specs.Side.{Best}
use Rattle.filters.specs.Line.{place, UnderCell, entry, Holds}
use Rattle.filters.specs.Row.{slot_of}

-- chord q, laid with the origin at (x, y)
abbrev pub Along : {K C : Type 0} → Lattice C → (K → C) → C → Sheet K → Plan → ℕ → ℕ → ℕ → C → Type 0
Along k f z s p x y q a =
    (j : ℕ) → j < long p q → UnderCell k f z a (place s p.above ((chord_of p q).column + x + j) (y + (chord_of p q).row))

abbrev pub Through : {K C : Type 0} → Lattice C → (K → C) → C → Sheet K → Plan → ℕ → ℕ → C → Type 0
Through k f z s p x y a = (q : ℕ) → q < length (chords_of p) → Along k f z s p x y q a

abbrev pub SameFrom : {K : Type 0} → ℕ → Sheet K → Sheet K → Type 0
SameFrom y s t = (x j : ℕ) → y ≤ j → t.cell x j ≡ s.cell x j

abbrev pub next_slot : ℕ → ℕ → ℕ
next_slot rows slot = cond (nat_lt (slot + 1) rows) (slot + 1) 0

-- line l, if it is one of the last n before `line`, stands in its slot
abbrev pub InRing : {K C : Type 0} → Lattice C → (K → C) → C → Sheet K → Plan → ℕ → List K → ℕ → ℕ → ℕ → Type 0
InRing k f z s p w table slot line n =
    (l : ℕ) → l < line → line ≤ l + n →
    Holds k f z s p w table (slot_of p.rows slot (l + p.rows - line) * length (lengths_of p) * (w + 30)) l

-- places without a cell stand as the course's padding
abbrev pub Stands : {K C : Type 0} → Lattice C → (K → C) → Course K → Sheet K → List K → ℕ → ℕ → ℕ → Type 0
Stands k f c s table slot line n = InRing k f (f c.pad) s c.plan c.width table slot line n

-- entry x is the greatest lower bound of all that the chords show at (x, y)
abbrev pub Gathered : {K C : Type 0} → Lattice C → (K → C) → C → Sheet K → Plan → ℕ → List K → ℕ → ℕ → Type 0
Gathered k f z s p w table start y = (x : ℕ) → x < w → Best k (Through k f z s p x y) (entry k f table (start + x))

abbrev pub Laid : {K C : Type 0} → Lattice C → (K → C) → Course K → Sheet K → List K → ℕ → ℕ → Type 0
Laid k f c s table start y = Gathered k f (f c.pad) s c.plan c.width table start y
