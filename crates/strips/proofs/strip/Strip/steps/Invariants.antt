-- The steps that are left, counted on from the words taken, are all the steps; each turn takes a word.
use Rattle.std.proofs.Common.{◌≡◌, ◌≤◌, ◌-◌, length}
use Rattle.strips.specs.Reading.{steps_due}
use Rattle.strips.specs.Views.{left}
use Rattle.strips.proofs.Loops.{added}
use Rattle.strips.proofs.strip.Strip.steps.Given as goal

abbrev pub invariant-loop : goal.invariant-loop
invariant-loop l = record {
  reads : added (length (left l.initial.self).words - length (left l.self).words) (steps_due (left l.self)) ≡ added 0 (steps_due (left l.initial.self));
  fewer : length (left l.self).words ≤ length (left l.initial.self).words;
}

abbrev pub decreases-loop : goal.decreases-loop
decreases-loop l = length (left l.self).words
