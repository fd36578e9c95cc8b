-- The plan of the mask, turned, is the plan of the turned mask.
use Rattle.std.proofs.Common.{refl}
use Rattle.masks.specs.Rows.{points}
use Rattle.plans.proofs.TurnedPlans.{turned_sound, turned_plan}
use Rattle.plans.proofs.plan.Plan.of_turned.Goals as goal

pub invariant_of-result : goal.invariant_of-result
invariant_of-result c = record { sound = rw c.turned_chords.ensures (turned_sound c.of-plan.result) }

pub returns : goal.returns
returns c =
    let ws = c.args.mask.now.rows in
    turned_plan c.of-plan.result _ refl refl refl c.turned_chords.ensures ws (points ws 31) c.of-plan.ensures
