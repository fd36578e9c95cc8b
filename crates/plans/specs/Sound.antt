-- What a sweep relies on: the rows, the lengths and the chords of a plan fit each other.
--     chord_at cs q            chord q of some
--     Within rows n c          the chord lies within so many rows and lengths, and within 31 columns
--     Sound above rows ns cs   the chords lie within the rows, the lengths and the columns; the lengths climb by no more than doubling
use Rattle.std.specs.Prelude.{◌≡◌, ℕ, ◌+◌, ◌-◌, ◌<◌, ◌≤◌, List, length, slice_index, slice_index_or}
use Rattle.plans.specs.declared.placed.PlannedChord.{PlannedChord}

-- chord q of some
abbrev pub chord_at : List PlannedChord → ℕ → PlannedChord
chord_at cs q = slice_index_or cs q (record { row = 0; column = 0; index = 0 })

-- a chord lies within so many rows and lengths, and within 31 columns
pub record Within (rows n : ℕ) (c : PlannedChord) : Type 0 where
  pub row : c.row < rows
  pub index : c.index < n
  pub column : c.column ≤ 30

-- what a sweep relies on
pub record Sound (above rows : ℕ) (ns : List ℕ) (cs : List PlannedChord) : Type 0 where
  pub some_chord : 1 ≤ length cs
  pub few_chords : length cs ≤ 496
  pub origin : above < rows
  pub few_rows : rows ≤ 31
  pub some_length : 1 ≤ length ns
  pub few_lengths : length ns ≤ 31
  pub first : slice_index ns 0 ≡ 1
  pub climbs : (i : ℕ) → 1 ≤ i → i < length ns → slice_index ns (i - 1) < slice_index ns i
  pub doubles : (i : ℕ) → 1 ≤ i → i < length ns → slice_index ns i ≤ slice_index ns (i - 1) + slice_index ns (i - 1)
  pub low : (i : ℕ) → i < length ns → 1 ≤ slice_index ns i
  pub top : (i : ℕ) → i < length ns → slice_index ns i ≤ 31
  pub chords : (q : ℕ) → q < length cs → Within rows (length ns) (chord_at cs q)
  pub ends : (q : ℕ) → q < length cs → (chord_at cs q).column + slice_index ns (chord_at cs q).index ≤ 31
