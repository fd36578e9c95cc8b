-- Chords: runs of points in one row that cannot be lengthened at either end.
--     run rows c r           how many points follow each other in row r from column c on
--     starts rows r n        the columns below n in which a chord starts
--     chords rows n          the chords in the rows below n, row by row and each row from the left
--     OnGrid ch              ch starts on the grid, and is no longer than a row of it
--     IsChord rows ch        ch is such a run, in the subject's own words
--     AllChords rows cs      cs has just the runs, by row and then by start
use Rattle.std.specs.Prelude.{◌≡◌, ℕ, zero, suc, ◌<◌, ◌≤◌, Bool, true, false, not, ◌&&◌, ◌↔◌, List, map, ℤ, pos, ◌+ℤ◌, ◌-ℤ◌, neg_ℤ, ◌≤ℤ◌, filter}
use Rattle.std.specs.List.{range_with_len, flat_map, prefix_len}
use Rattle.masks.specs.Points.{Among, Earlier, InOrder}
use Rattle.masks.specs.Rows.{marked, holds}
use Rattle.masks.specs.declared.point.Point.{Point}
use Rattle.masks.specs.declared.chord.Chord.{Chord}

-- how many points follow each other in row r from column c to the right
unfoldable pub run : List ℕ → ℕ → ℕ → ℕ
run rows c r = prefix_len (λ k. marked rows k r) (range_with_len c 31)

-- a chord starts at a point whose left neighbour is none
abbrev pub starts_at : List ℕ → ℕ → ℕ → Bool
starts_at rows r zero = marked rows 0 r
starts_at rows r (suc c) = marked rows (suc c) r && not (marked rows c r)

unfoldable pub starts : List ℕ → ℕ → ℕ → List ℕ
starts rows r n = filter (starts_at rows r) (range_with_len 0 n)

-- the chord that starts in column c of row r
abbrev pub chord_at : List ℕ → ℕ → ℕ → Chord
chord_at rows r c = record { v = pos r -ℤ pos 15; start = pos c -ℤ pos 15; length = run rows c r }

-- the chords in the rows below n; with n = 31 all chords
unfoldable pub chords : List ℕ → ℕ → List Chord
chords rows n = flat_map (λ r. map (chord_at rows r) (starts rows r 31)) (range_with_len 0 n)

-- from -15 to 15
abbrev pub Near : ℤ → Type 0
Near z = (neg_ℤ (pos 15) ≤ℤ z) × (z ≤ℤ pos 15)

-- a chord starts in one of the 31 columns and rows from -15 on, and has from 1 to 31 points
abbrev pub OnGrid : Chord → Type 0
OnGrid ch = Near ch.start × Near ch.v × (1 ≤ ch.length) × (ch.length < 32)

-- a run of points in one row that cannot be lengthened at either end
pub record IsChord (rows : List ℕ) (ch : Chord) : Type 0 where
  pub some : 1 ≤ ch.length
  pub points : (j : ℕ) → j < ch.length → holds rows (record { u = ch.start +ℤ pos j; v = ch.v }) ≡ true
  pub left : holds rows (record { u = ch.start -ℤ pos 1; v = ch.v }) ≡ false
  pub right : holds rows (record { u = ch.start +ℤ pos ch.length; v = ch.v }) ≡ false

-- the first point of a chord
abbrev pub first_point : Chord → Point
first_point ch = record { u = ch.start; v = ch.v }

-- the list has the runs and nothing else, in order
pub record AllChords (rows : List ℕ) (cs : List Chord) : Type 0 where
  pub runs : (ch : Chord) → Among cs ch ↔ IsChord rows ch
  pub order : InOrder (λ a b. Earlier (first_point a) (first_point b)) cs
