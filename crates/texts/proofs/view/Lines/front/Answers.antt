-- The first lines are those of the first texts.
use Rattle.texts.proofs.Views.{shown_front}
use Rattle.texts.proofs.view.Lines.front.Goals as goal

pub returns : goal.returns
returns c = shown_front c.args.self.first c.args.self.texts.now c.args.n c.min-end.result c.min-end.ensures
