-- The length list: the run lengths for which a filter's table has lines.
--     ticked cs              the lengths of the chords, ticked in a list of the numbers 0 to 31
--     halved s               with the halves that the rule adds
--     lengths cs             the ticked lengths in rising order
--     Climbs a bs            each number is above the one before it and at most its double
--     Serves cs ns           ns is a length list that serves the chords cs
use Rattle.std.specs.Prelude.{◌≡◌, ℕ, ◌+◌, ◌/◌, ◌<◌, ◌≤◌, Bool, true, false, cond, not, ◌&&◌, List, [], ◌∷◌, reverse, set, replicate, fold, filter, nat_le, slice_index_or, slice_set}
use Rattle.std.specs.List.{range_with_len, list_any}
use Rattle.masks.specs.Points.{Among}
use Rattle.masks.specs.declared.chord.Chord.{Chord}

-- a is ticked
abbrev pub listed : List Bool → ℕ → Bool
listed s a = slice_index_or s a false

-- the lengths of the chords
unfoldable pub ticked : List Chord → List Bool
ticked cs = fold (λ s c. set s c.length true) (replicate 32 false) cs

-- a listed number below n reaches a when it is doubled
abbrev pub reached : List Bool → ℕ → ℕ → Bool
reached s a n = list_any (λ b. listed s b && nat_le a (b + b)) (range_with_len 0 n)

-- where a is listed and no listed number below it reaches it when doubled, half of a, rounded up, joins
abbrev pub halved_at : List Bool → ℕ → List Bool
halved_at s a = cond (listed s a && not (reached s a a)) (slice_set s ((a + 1) / 2) true) s

-- that rule for a from 31 down to 2
unfoldable pub halved : List Bool → List Bool
halved s = fold halved_at s (reverse (range_with_len 2 30))

-- the listed numbers from 1 on that lie below n + 1, in rising order
unfoldable pub rising : List Bool → ℕ → List ℕ
rising s n = filter (listed s) (range_with_len 1 n)

-- the length list of some chords
unfoldable pub lengths : List Chord → List ℕ
lengths cs = rising (halved (ticked cs)) 31

-- each number is above the one before it, the first of which is a, and at most its double
abbrev pub Climbs : ℕ → List ℕ → Type 0
Climbs a [] = Unit {0}
Climbs a (b ∷ bs) = (a < b) × (b ≤ a + a) × Climbs b bs

-- what a filter needs of a length list: it begins with 1, climbs by no more than doubling, and has each chord's length
pub record Serves (cs : List Chord) (ns : List ℕ) : Type 0 where
  pub more : List ℕ
  pub from_one : ns ≡ 1 ∷ more
  pub climbs : Climbs 1 more
  pub each : (ch : Chord) → Among cs ch → Among ns ch.length
