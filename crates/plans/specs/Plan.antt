-- What a plan says, and when it is the plan of a mask.
--     chord_of p q          chord q of the plan
--     length_of p i         length i of the plan
--     long p q              the length of chord q
--     point_of p q j        point j of chord q, as an offset from the origin
--     Spells p ps           the points of the chords are just those of the list ps
--     PlanOf ws ps p        p spells ps, and has the rows, the lengths and as many chords as the mask with the row words ws
use Rattle.std.specs.Prelude.{◌≡◌, ℕ, ◌+◌, ◌<◌, List, length, pos, ◌-ℤ◌, slice_index}
use Rattle.masks.specs.Points.{Among}
use Rattle.masks.specs.Chords.{chords}
use Rattle.masks.specs.Lengths.{lengths}
use Rattle.masks.specs.Cost.{spanned}
use Rattle.masks.specs.declared.point.Point.{Point}
use Rattle.plans.specs.Sound.{chord_at}
use Rattle.plans.specs.Shown.{chords_of, lengths_of}
use Rattle.plans.specs.declared.plan.Plan.{Plan}
use Rattle.plans.specs.declared.placed.PlannedChord.{PlannedChord}

-- chord q, length i, and the length of chord q
abbrev pub chord_of : Plan → ℕ → PlannedChord
chord_of p q = chord_at (chords_of p) q

abbrev pub length_of : Plan → ℕ → ℕ
length_of p i = slice_index (lengths_of p) i

abbrev pub long : Plan → ℕ → ℕ
long p q = length_of p (chord_of p q).index

-- point j of chord q: columns count from -15, and `above` rows lie above the origin
abbrev pub point_of : Plan → ℕ → ℕ → Point
point_of p q j = record { u = pos ((chord_of p q).column + j) -ℤ pos 15; v = pos (chord_of p q).row -ℤ pos p.above }

-- each point of a chord is in the list, and each in the list is a point of some chord
pub record Spells (p : Plan) (ps : List Point) : Type 0 where
  pub each : (q j : ℕ) → q < length (chords_of p) → j < long p q → Among ps (point_of p q j)
  pub only : (pt : Point) → Among ps pt → (q : ℕ) × (j : ℕ) × (q < length (chords_of p)) × (j < long p q) × (pt ≡ point_of p q j)

-- a plan for the points ps that costs what the mask with the row words ws costs
pub record PlanOf (ws : List ℕ) (ps : List Point) (p : Plan) : Type 0 where
  pub points : Spells p ps
  pub rows : p.rows ≡ spanned ws
  pub lengths : lengths_of p ≡ lengths (chords ws 31)
  pub count : length (chords_of p) ≡ length (chords ws 31)
