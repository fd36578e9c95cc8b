-- The chords passed stand in the list.
use Rattle.std.proofs.Common.{◌≡◌, take}
use Rattle.plans.specs.Shown.{planned_in}
use Rattle.plans.proofs.planned.PlannedChords.of.Given as goal

abbrev pub invariant-loop-c : goal.invariant-loop-c
invariant-loop-c l = planned_in l.list ≡ take l.c-index l.chords
