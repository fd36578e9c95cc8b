-- a whole sheet, turned over, is whole
use Rattle.sheets.specs.Wholes.{flipped_whole}
use Rattle.sheets.proofs.south_up.SouthUpHolder.size.Goals as goal

pub returns-clause-whole : goal.returns-clause-whole
returns-clause-whole g c = flipped_whole (g.H.Holder.sheet c.args.self.now.inner) c.size.ensures.whole
