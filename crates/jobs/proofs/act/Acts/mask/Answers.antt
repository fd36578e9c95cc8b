-- A mask that is made has just the points of the run.
use Rattle.std.proofs.Common.{rules}
use Rattle.jobs.proofs.Acts.{mask_alike}
use Rattle.jobs.proofs.act.Acts.mask.Goals as goal

pub returns : goal.returns
returns c =
    let made = mask_alike c.args.self.now.first c.as_slice.result.now c.from_points.result c.map_err.result (λ f e p. search rules) (λ m e. rw e at c.from_points.ensures.answer) (λ f e. rw e at c.from_points.ensures.answer) c.map_err.ensures.cases in
    rw (← c.as_slice.ensures.value) made
