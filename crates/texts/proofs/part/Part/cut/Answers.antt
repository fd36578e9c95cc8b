-- The place is that of the first line which begins the part.
use Rattle.texts.proofs.Cuts.{cuts_at}
use Rattle.texts.proofs.part.Part.cut.Goals as goal

pub returns : goal.returns
returns c = cuts_at c.args.self c.args.lines.now c.in_ok-at.at _ (rw c.in_ok-at.ensures.ok_part at c.place.ensures)
