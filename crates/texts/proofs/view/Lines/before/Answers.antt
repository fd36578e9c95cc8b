-- The first line has the number of the view.
use Rattle.std.proofs.Common.{rules, tests, ◌<◌, length, ◌∙◌}
use Rattle.texts.proofs.Views.{shown_before}
use Rattle.texts.proofs.view.Lines.before.Goals as goal

pub returns-else-is_empty : goal.returns-else-is_empty
returns-else-is_empty c =
    let some : 0 < length c.args.self.texts.now = search (rules, tests) in
    c.saturating_sub.ensures ∙ shown_before c.args.self.first c.args.self.texts.now some
