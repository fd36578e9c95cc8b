-- Without a mask a filter is refused, whatever the table.
use Rattle.std.proofs.Common.{◌≡◌, ℕ, Some, None, Err, Option, MatchResult, sym, refl, ◌∙◌, ap₂}
use Rattle.std.specs.Prelude.{ok_or}
use Rattle.masks.specs.declared.mask.Mask.{Mask}
use Rattle.morphology.specs.Refusals.{judged}
use Rattle.morphology.specs.declared.refusal.Refusal.{Refusal}
use Rattle.worksheets.proofs.worksheet.Worksheet.laid.Goals as goal

by_mask : (o : Option Mask) (r : Refusal) (w h : ℕ) → ((n : ℕ) → judged w h None n ≡ Err r) → MatchResult (ok_or o r) (λ m. o ≡ Some m) (λ s. (n : ℕ) → judged w h o n ≡ Err s)
by_mask (Some m) r w h none = refl
by_mask None r w h none = none

pub returns : goal.returns
returns g c =
    let s = g.H.Holder.sheet c.args.self.now.holder in
    rw c.ok_or.ensures.value (by_mask c.args.self.now.mask c.unmasked.result s.width s.height (λ n. ap₂ (λ w h. judged w h None n) (sym c.size.ensures.width) (sym c.size.ensures.height) ∙ c.unmasked.ensures n))
