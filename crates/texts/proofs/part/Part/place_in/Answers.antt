-- The search stops at the first text whose test is true.
use Rattle.std.proofs.Common.{rules, tests, true, false, String, string_bytes}
use Rattle.std.proofs.lemmas.Iterator.{IsFirst-from_position, YieldsList-from_slice}
use Rattle.std.specs.declared.alloc.Global.{Global}
use Rattle.texts.specs.Parts.{IsBegunBy}
use Rattle.texts.proofs.part.Part.place_in.Goals as goal

pub returns : goal.returns
returns c =
    let begins = λ (t : String Global). IsBegunBy c.args.self (string_bytes t) true in
    let lacks = λ (t : String Global). IsBegunBy c.args.self (string_bytes t) false in
    IsFirst-from_position _ _ c.position.result begins lacks c.position.ensures.ran (YieldsList-from_slice c.args.texts.now cc) (λ x q k. search (rules, tests)) (λ x q k. search (rules, tests))
