-- The picks of the sweep are those of the mask.
use Rattle.std.proofs.Common.{◌≡◌, ℕ, ◌+◌, ◌-◌, ◌*◌, length, Some, Ok, sym, ap, ◌∙◌, ap₂}
use Rattle.masks.specs.Cost.{line_picks}
use Rattle.morphology.specs.Refusals.{judged}
use Rattle.morphology.specs.Calls.{answered_by}
use Rattle.morphology.specs.declared.call.Filter.TheVariants.{Erode}
use Rattle.plans.specs.Shown.{lengths_of, chords_of}
use Rattle.filters.specs.Calls.{verdict}
use Rattle.filters.proofs.Verdicts.{plan_picks}
use Rattle.filters.proofs.filter.filter.Goals as goal

pub returns-clause-answer : goal.returns-clause-answer
returns-clause-answer g c = λ m ps P.
    let p = c.args.plan in
    let s = g.H.Holder.sheet c.args.holder.now in
    let n = length c.args.table.now in
    let ew : c.size-size.result.width ≡ s.width = c.size-size.ensures.width in
    let eh : c.size-size.result.height ≡ s.height = c.size-size.ensures.height in
    let goes : verdict s m n ≡ Ok m = sym (ap₂ (λ (w h : ℕ). judged w h (Some m) n) ew eh) ∙ c.in_ok-admit.ensures.verdict m ps P in
    ap (λ (r : ℕ). Ok r)
    (c.sweep.ensures.picks
    ∙ ap₂ (λ (w h : ℕ). (h + p.rows - 1) * line_picks w (lengths_of p) + h * (w * (length (chords_of p) - 1))) ew eh
    ∙ plan_picks m.rows ps p s.width s.height P)
    ∙ sym (ap (λ v. answered_by Erode v s.width s.height) goes)
