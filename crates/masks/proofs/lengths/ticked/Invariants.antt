use Rattle.std.proofs.Common.{◌≡◌, length, take}
use Rattle.masks.specs.Lengths.{ticked}
use Rattle.masks.specs.Shown.{chords_in}
use Rattle.masks.proofs.lengths.ticked.Given as goal

-- the lengths of the chords passed are ticked
abbrev pub invariant-loop-c : goal.invariant-loop-c
invariant-loop-c l = (length l.ticks ≡ 32) × (l.ticks ≡ ticked (take l.c-index (chords_in l.chords)))
