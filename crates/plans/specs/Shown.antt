-- What a plan shows: the chords and the lengths of its lists.
--     planned_in l    the chords of a list: the first of its array, as many as it counts
--     chords_of p     the chords of the plan
--     lengths_of p    the lengths of the plan
use Rattle.std.specs.Prelude.{ℕ, List, take}
use Rattle.masks.specs.Shown.{lengths_in}
use Rattle.plans.specs.declared.plan.Plan.{Plan}
use Rattle.plans.specs.declared.placed.PlannedChord.{PlannedChord}
use Rattle.plans.specs.declared.planned.PlannedChords.{PlannedChords}

-- the chords of a list
abbrev pub planned_in : PlannedChords → List PlannedChord
planned_in l = take l.count l.list

-- the chords and the lengths of a plan
abbrev pub chords_of : Plan → List PlannedChord
chords_of p = planned_in p.chords

abbrev pub lengths_of : Plan → List ℕ
lengths_of p = lengths_in p.lengths
