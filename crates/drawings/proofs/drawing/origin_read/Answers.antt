-- What the search finds is the first mark that is no sign.
use Rattle.std.proofs.Common.{not, ap, ◌∙◌, sym, rules, tests}
use Rattle.std.specs.Option.{option_map}
use Rattle.std.proofs.lemmas.Iterator.{YieldsList-from_slice}
use Rattle.std.proofs.lemmas.Iterator.Search.{find_from_yields_List}
use Rattle.drawings.specs.Signs.{is_sign}
use Rattle.drawings.specs.Readings.{told_first, origin_of}
use Rattle.drawings.proofs.drawing.origin_read.Goals as goal

pub returns-in-Some : goal.returns-in-Some
returns-in-Some c =
    let found = find_from_yields_List (λ m. not (is_sign m.sign)) _ _ c.find.result c.find.ensures.ran (YieldsList-from_slice c.args.marks.now cc) (λ x b q k. search (rules, tests)) in
    ap (λ f. told_first f (origin_of c.args.marks.now)) (ap (option_map (λ m. m.now)) (sym c.in-Some.is) ∙ found)

pub returns : goal.returns
returns c =
    let found = find_from_yields_List (λ m. not (is_sign m.sign)) _ _ c.find.result c.find.ensures.ran (YieldsList-from_slice c.args.marks.now cc) (λ x b q k. search (rules, tests)) in
    c.origin_of.ensures ∙ ap (λ f. told_first f (origin_of c.args.marks.now)) (ap (option_map (λ m. m.now)) (sym c.in_default.is) ∙ found)
