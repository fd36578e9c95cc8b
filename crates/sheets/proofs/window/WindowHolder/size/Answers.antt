-- a part of a whole sheet is whole
use Rattle.sheets.specs.Wholes.{part_whole}
use Rattle.sheets.proofs.window.WindowHolder.size.Goals as goal

pub returns-clause-whole : goal.returns-clause-whole
returns-clause-whole g c = part_whole (g.H.Holder.sheet c.args.self.now.inner) c.args.self.now.asked c.size.ensures.whole
