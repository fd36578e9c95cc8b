-- The lines behind are those of the texts behind.
use Rattle.texts.proofs.Views.{shown_behind}
use Rattle.texts.proofs.view.Lines.behind.Goals as goal

pub returns : goal.returns
returns c = shown_behind c.args.self.first c.args.self.texts.now c.args.n c.min-from.result c.min-from.ensures
