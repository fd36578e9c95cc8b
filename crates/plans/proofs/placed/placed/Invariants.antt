-- The chords passed stand in the list, placed.
use Rattle.std.proofs.Common.{◌≡◌, map, take}
use Rattle.masks.specs.Shown.{chords_in, lengths_in}
use Rattle.plans.specs.Shown.{planned_in}
use Rattle.plans.specs.Placed.{planned}
use Rattle.plans.proofs.placed.placed.Given as goal

abbrev pub invariant-loop-c : goal.invariant-loop-c
invariant-loop-c l = planned_in l.list ≡ map (planned l.first (lengths_in l.lengths)) (take l.c-index (chords_in l.chords))
