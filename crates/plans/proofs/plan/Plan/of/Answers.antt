-- No chord lies north of the northmost row; so the plan is the mask's.
use Rattle.std.proofs.Common.{◌≡◌, ℕ, List, map, ℤ, pos, ◌+ℤ◌, sym, refl, ap, ◌∙◌, subst, ap₂, w32, SFits, of_z, to_z, rules}
use Rattle.std.specs.Int.{int_min}
use Rattle.std.specs.List.{AllByRecursion}
use Rattle.std.proofs.lemmas.Int.{to_z-of_z}
use Rattle.masks.specs.Cost.{farthest}
use Rattle.masks.specs.declared.chord.Chord.{Chord}
use Rattle.masks.specs.Chords.{chords}
use Rattle.masks.specs.Lengths.{lengths}
use Rattle.plans.specs.declared.placed.PlannedChord.{PlannedChord}
use Rattle.masks.specs.Shown.{chords_in, lengths_in}
use Rattle.plans.specs.Shown.{planned_in}
use Rattle.plans.specs.Placed.{Below, planned}
use Rattle.plans.proofs.Extents.{north}
use Rattle.plans.proofs.MaskPlans.{from_first, plan_sound, mask_plan}
use Rattle.plans.proofs.plan.Plan.of.Goals as goal

-- the first row is the northmost
first_is : (ws : List ℕ) (first : ℕ) (z : ℤ) (cs : List Chord) → SFits w32 z → pos first ≡ to_z w32 (of_z w32 z) +ℤ pos 15 →
    z ≡ farthest int_min (λ d. d.v) cs → cs ≡ chords ws 31 → pos first ≡ north ws +ℤ pos 15
first_is ws first z cs fits e n l = e ∙ ap (λ (y : ℤ). y +ℤ pos 15) (to_z-of_z w32 z fits ∙ n ∙ ap (farthest {X = Chord} int_min (λ d. d.v)) l)

-- the chords are placed by the mask's lengths
items_are : (ws : List ℕ) (first : ℕ) (cs : List Chord) (ns : List ℕ) (out : List PlannedChord) → out ≡ map (planned first ns) cs → cs ≡ chords ws 31 → ns ≡ lengths (chords ws 31) →
    out ≡ map (planned first (lengths (chords ws 31))) (chords ws 31)
items_are ws first cs ns out o e l = o ∙ ap₂ (λ (k : List ℕ) (x : List Chord). map (planned first k) x) l e

pub placed-requires : goal.placed-requires
placed-requires c =
    let ws = c.args.mask.now.rows in
    let first = c.grid_place-first.result in
    let fits : SFits w32 c.extent-north.result.0 = search rules in
    let A = first_is ws first c.extent-north.result.0 (chords_in c.of-chords.result) fits c.grid_place-first.ensures c.extent-north.ensures.north c.of-chords.ensures.list in
    subst (AllByRecursion (Below first)) (sym c.of-chords.ensures.list) (from_first ws first A)

pub invariant_of-result : goal.invariant_of-result
invariant_of-result c =
    let ws = c.args.mask.now.rows in
    let first = c.grid_place-first.result in
    let fits : SFits w32 c.extent-north.result.0 = search rules in
    let A = first_is ws first c.extent-north.result.0 (chords_in c.of-chords.result) fits c.grid_place-first.ensures c.extent-north.ensures.north c.of-chords.ensures.list in
    let O = items_are ws first (chords_in c.of-chords.result) (lengths_in c.of-lengths.result) (planned_in c.placed.result) c.placed.ensures c.of-chords.ensures.list c.of-lengths.ensures.list in
    record { sound = rw (c.rows.ensures.answer, c.of-lengths.ensures.list, O) (plan_sound ws c.args.mask.now.some first A) }

pub returns : goal.returns
returns c =
    let ws = c.args.mask.now.rows in
    let first = c.grid_place-first.result in
    let fits : SFits w32 c.extent-north.result.0 = search rules in
    let A = first_is ws first c.extent-north.result.0 (chords_in c.of-chords.result) fits c.grid_place-first.ensures c.extent-north.ensures.north c.of-chords.ensures.list in
    let O = items_are ws first (chords_in c.of-chords.result) (lengths_in c.of-lengths.result) (planned_in c.placed.result) c.placed.ensures c.of-chords.ensures.list c.of-lengths.ensures.list in
    mask_plan ws c.args.mask.now.some first A _ refl c.rows.ensures.answer c.of-lengths.ensures.list O
