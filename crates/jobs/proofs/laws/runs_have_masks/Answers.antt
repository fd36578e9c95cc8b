-- The rows of the mask are drawn.
use Rattle.std.proofs.Common.{sym, subst}
use Rattle.masks.specs.Rows.{Drawn}
use Rattle.jobs.proofs.Drawings.{mask_drawn, drawn_all}
use Rattle.jobs.proofs.laws.runs_have_masks.Goals as goal

pub returns : goal.returns
returns c = λ ps e. let m = mask_drawn ps e in (m.0, m.1, subst (λ rows. Drawn rows ps) (sym m.2) (drawn_all ps e))
