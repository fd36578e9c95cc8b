-- The first point that is not near stands behind the front of those that are.
use Rattle.std.proofs.Common.{◌≡◌, Bool, true, false, not, cond, ltb, length, Some, None, refl, ap, ◌∙◌, rules, tests}
use Rattle.std.specs.List.{prefix_len}
use Rattle.std.proofs.lemmas.Iterator.{YieldsList-from_slice}
use Rattle.std.proofs.lemmas.Iterator.Search.{position_from_yields_List}
use Rattle.masks.specs.Points.{near}
use Rattle.masks.specs.declared.point.Point.{Point}
use Rattle.masks.proofs.mask.first_beyond.Goals as goal

not_not : (b : Bool) → not (not b) ≡ b
not_not true = refl
not_not false = refl

pub returns : goal.returns
returns c =
    let ps = c.args.list.now in
    position_from_yields_List (λ p. not (near p)) _ _ c.position.result c.position.ensures.ran (YieldsList-from_slice ps cc) (λ x b q k. search (rules, tests))
    ∙ ap (λ (f : Point → Bool). cond (ltb (prefix_len f ps) (length ps)) (Some (prefix_len f ps)) None) (λ i p. not_not (near p) i)
