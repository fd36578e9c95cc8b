-- Of the numbers below a, with whether they are listed, one is listed and reaches a.
use Rattle.std.proofs.Common.{ℕ, ◌+◌, Bool, ◌&&◌, take, nat_le, ◌∙◌, arith, rules, tests}
use Rattle.std.proofs.lemmas.Iterator.{YieldsList-from_slice}
use Rattle.std.proofs.lemmas.Iterator.Consumers.{YieldsList-from_enumerate}
use Rattle.std.proofs.lemmas.Iterator.Search.{any_from_yields_List}
use Rattle.masks.proofs.Halving.{reached_numbered}
use Rattle.masks.proofs.lengths.reached.Goals as goal

pub returns : goal.returns
returns c =
    let s = c.args.ticks.now in
    let a = c.args.a in
    any_from_yields_List (λ (p : ℕ × Bool). p.1 && nat_le a (p.0 + p.0)) _ _ c.any.result c.any.ensures.ran
    (YieldsList-from_enumerate (YieldsList-from_slice (take a s) cc) cc) (λ x b q k. search (rules, tests))
    ∙ reached_numbered s a (omega (arith, c.told-ticks, c.requires))
