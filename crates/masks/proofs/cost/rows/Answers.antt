-- The farthest chords lie where the farthest points do.
use Rattle.std.proofs.Common.{◌+◌, ℤ, ◌-ℤ◌, nat_abs, ap, ◌∙◌, ap₂, w32, SFits, rules}
use Rattle.std.specs.Int.{int_min, int_max}
use Rattle.std.proofs.lemmas.Int.{to_z-of_z}
use Rattle.masks.specs.Cost.{farthest, spanned}
use Rattle.masks.specs.declared.chord.Chord.{Chord}
use Rattle.masks.proofs.Runs.{northmost_chord, southmost_chord}
use Rattle.masks.proofs.cost.rows.Goals as goal

pub returns-clause-answer : goal.returns-clause-answer
unfolding spanned
returns-clause-answer c =
    let rows = c.args.mask.now.rows in
    let n = c.extent-north.ensures.north ∙ ap (farthest {X = Chord} int_min (λ ch. ch.v)) c.of.ensures.list ∙ northmost_chord rows in
    let s = c.extent-north.ensures.south ∙ ap (farthest {X = Chord} int_max (λ ch. ch.v)) c.of.ensures.list ∙ southmost_chord rows in
    let fn : SFits w32 c.extent-north.result.0 = search rules in
    let fs : SFits w32 c.extent-north.result.1 = search rules in
    c.span.ensures.answer ∙ ap₂ (λ (x y : ℤ). nat_abs (x -ℤ y) + 1) (to_z-of_z w32 c.extent-north.result.1 fs ∙ s) (to_z-of_z w32 c.extent-north.result.0 fn ∙ n)
