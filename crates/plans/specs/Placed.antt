-- Where the chords of a mask stand in its plan.
--     Below first c        the chord's row is not above row `first`, counted from -15
--     index_of ns a        the place of the length a in the length list ns
--     planned first ns c   the chord in the coordinates of the table, whose first row is `first`
--     turned_chord rows ns c   the chord on the other side of the origin
use Rattle.std.specs.Prelude.{ℕ, ◌-◌, not, List, pos, ◌+ℤ◌, ◌≤ℤ◌, ◌==◌, unsigned_abs, slice_index}
use Rattle.std.specs.List.{prefix_len}
use Rattle.masks.specs.declared.chord.Chord.{Chord}
use Rattle.plans.specs.declared.placed.PlannedChord.{PlannedChord}

-- the chord's row is not above the first
abbrev pub Below : ℕ → Chord → Type 0
Below first c = pos first ≤ℤ (c.v +ℤ pos 15)

-- how many lengths stand before the first that is a
abbrev pub index_of : List ℕ → ℕ → ℕ
index_of ns a = prefix_len (λ b. not (b == a)) ns

abbrev pub planned : ℕ → List ℕ → Chord → PlannedChord
planned first ns c = record {
  row = unsigned_abs (c.v +ℤ pos 15) - first;
  column = unsigned_abs (c.start +ℤ pos 15);
  index = index_of ns c.length;
}

-- the chord among so many rows and with those lengths, turned about the origin: it ends where it began
abbrev pub turned_chord : ℕ → List ℕ → PlannedChord → PlannedChord
turned_chord rows ns c = record {
  row = rows - 1 - c.row;
  column = 31 - c.column - slice_index ns c.index;
  index = c.index;
}
