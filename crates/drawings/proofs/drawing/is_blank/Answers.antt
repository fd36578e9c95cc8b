-- The search stops at the first character that is no blank.
use Rattle.std.proofs.Common.{◌≡◌, ◌≢◌, rules, tests}
use Rattle.std.proofs.lemmas.Iterator.{cases_from_all, YieldsList-from_slice}
use Rattle.drawings.proofs.Blanks.{blank_by}
use Rattle.drawings.proofs.drawing.is_blank.Goals as goal

pub returns : goal.returns
returns c = blank_by _ _ (cases_from_all _ _ _ (λ b. b ≡ 32) (λ b. b ≢ 32) c.all.ensures.ran (YieldsList-from_slice c.args.text.now cc) (λ x q k. search (rules, tests)) (λ x q k. search (rules, tests)))
