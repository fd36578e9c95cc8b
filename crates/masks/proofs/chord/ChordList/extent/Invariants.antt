use Rattle.std.proofs.Common.{◌≡◌, take}
use Rattle.std.specs.Int.{int_min, int_max}
use Rattle.masks.specs.Cost.{farthest}
use Rattle.masks.specs.Shown.{chords_in}
use Rattle.masks.proofs.chord.ChordList.extent.Given as goal

-- the farthest rows of the chords passed
abbrev pub invariant-loop-c : goal.invariant-loop-c
invariant-loop-c l = (l.north ≡ farthest int_min (λ c. c.v) (take l.c-index (chords_in l.self))) × (l.south ≡ farthest int_max (λ c. c.v) (take l.c-index (chords_in l.self)))
