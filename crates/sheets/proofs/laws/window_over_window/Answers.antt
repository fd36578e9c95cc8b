-- the part of a part is the part of the common rectangle
use Rattle.std.proofs.Common.{◌∙◌}
use Rattle.sheets.proofs.Parts.{part_part}
use Rattle.sheets.proofs.laws.window_over_window.Goals as goal

pub returns : goal.returns
returns g c = c.new.ensures.shows ∙ part_part (g.H.Holder.sheet c.args.inner.inner) c.args.inner.asked c.args.asked
