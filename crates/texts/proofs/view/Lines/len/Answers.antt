-- As many lines are shown as there are texts.
use Rattle.std.proofs.Common.{sym}
use Rattle.texts.proofs.Views.{shown_long}
use Rattle.texts.proofs.view.Lines.len.Goals as goal

pub returns : goal.returns
returns c = sym (shown_long c.args.self.first c.args.self.texts.now)
