-- The chords passed stand in the list, turned.
use Rattle.std.proofs.Common.{◌≡◌, map, take}
use Rattle.plans.specs.Shown.{planned_in, lengths_of, chords_of}
use Rattle.plans.specs.Placed.{turned_chord}
use Rattle.plans.proofs.placed.turned_chords.Given as goal

abbrev pub invariant-loop-c : goal.invariant-loop-c
invariant-loop-c l = planned_in l.turned ≡ map (turned_chord l.plan.rows (lengths_of l.plan)) (take l.c-index (chords_of l.plan))
