-- What is known of the chords of a mask: where they lie, and which points they have.
use Rattle.std.proofs.Common.{◌≡◌, ℕ, ◌+◌, ◌-◌, ◌<◌, ◌≤◌, List, pos, ◌+ℤ◌, arith}
use Rattle.std.proofs.lemmas.Int.{ints}
use Rattle.masks.specs.Points.{Among}
use Rattle.masks.specs.Chords.{chords, IsChord}
use Rattle.masks.specs.declared.chord.Chord.{Chord}
use Rattle.masks.proofs.Grids.{held_at, marked_column, marked_row}
use Rattle.masks.proofs.Runs.{all_runs}

-- the chord starts in a column and a row of the grid, and ends in the grid
pub record Lies (ch : Chord) : Type 0 where
  pub column : ℕ
  pub row : ℕ
  pub start_is : ch.start +ℤ pos 15 ≡ pos column
  pub v_is : ch.v +ℤ pos 15 ≡ pos row
  pub in_row : row < 31
  pub some : 1 ≤ ch.length
  pub ends : column + ch.length ≤ 31

module _ (ws : List ℕ) where
  run_of : (ch : Chord) → Among (chords ws 31) ch → IsChord ws ch
  run_of ch i = ((all_runs ws).runs ch).0 i

  -- a point of a chord, in the grid
  spot : (ch : Chord) → IsChord ws ch → (j : ℕ) → j < ch.length → (c : ℕ) × (r : ℕ) × ((ch.start +ℤ pos j) +ℤ pos 15 ≡ pos c) × (ch.v +ℤ pos 15 ≡ pos r) × (c < 31) × (r < 31)
  spot ch R j h =
      let q = held_at ws ((ch.start +ℤ pos j) +ℤ pos 15) (ch.v +ℤ pos 15) (R.points j h) in
      (q.0, q.1, q.2, q.3, marked_column ws q.0 q.1 q.4, marked_row ws q.0 q.1 q.4)

  pub lies : (ch : Chord) → Among (chords ws 31) ch → Lies ch
  lies ch i =
      let R = run_of ch i in
      let a = spot ch R 0 R.some in
      let b = spot ch R (ch.length - 1) (omega (arith, R.some)) in
      record {
        column = a.0;
        row = a.1;
        start_is = omega (arith, ints, a.2);
        v_is = a.3;
        in_row = a.5;
        some = R.some;
        ends = omega (arith, ints, a.2, b.2, b.4, R.some);
      }
