-- The place is that of the first line which begins the part.
use Rattle.std.proofs.Common.{rules, ap, ◌∙◌, string_bytes}
use Rattle.texts.proofs.Cuts.{cuts_in_at, lacks_in}
use Rattle.texts.proofs.part.Part.cut_in.Goals as goal

pub returns-in_err-at : goal.returns-in_err-at
returns-in_err-at c =
    let none = lacks_in c.args.self c.args.lines.first c.args.lines.texts.now (rw c.in_err-at.ensures.ok_part at c.place_in.ensures) in
    search (rules, none)

pub returns : goal.returns
returns c =
    let text = c.as_str.ensures.value ∙ ap string_bytes c.index-texts-at.is in
    cuts_in_at c.args.self c.args.lines.first c.args.lines.texts.now c.in_ok-at.at c.index-texts-at.result c.as_str.result.now text (rw c.in_ok-at.ensures.ok_part at c.place_in.ensures)
