-- The search stops at the first line whose test is true.
use Rattle.std.proofs.Common.{rules, tests, true, false}
use Rattle.std.proofs.lemmas.Iterator.{IsFirst-from_position, YieldsList-from_slice}
use Rattle.texts.specs.Parts.{Begins}
use Rattle.texts.specs.declared.line.Line.{Line}
use Rattle.texts.proofs.part.Part.place.Goals as goal

pub returns : goal.returns
returns c =
    let begins = λ (l : Line). Begins c.args.self l.text.now true in
    let lacks = λ (l : Line). Begins c.args.self l.text.now false in
    IsFirst-from_position _ _ c.position.result begins lacks c.position.ensures.ran (YieldsList-from_slice c.args.lines.now cc) (λ x q k. search (rules, tests)) (λ x q k. search (rules, tests))
