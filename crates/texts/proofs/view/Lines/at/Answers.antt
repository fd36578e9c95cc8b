-- The line at a place stands before those behind it.
use Rattle.std.proofs.Common.{rules, ℕ, ◌<◌, length, arith}
use Rattle.texts.specs.Lines.{shown}
use Rattle.texts.specs.declared.view.Lines.{Lines}
use Rattle.texts.proofs.Views.{shown_at, shown_long}
use Rattle.texts.proofs.view.Lines.at.Goals as goal

inside : (v : Lines) (i : ℕ) → i < length (shown v) → i < length v.texts.now
inside v i short = let long = shown_long v.first v.texts.now in omega (arith, long, short)

pub overflow_add-result : goal.overflow_add-result
overflow_add-result c = let short = inside c.args.self c.args.i c.requires in search (rules, short)

pub offset_bounds-self-i : goal.offset_bounds-self-i
offset_bounds-self-i c = let short = inside c.args.self c.args.i c.requires in search (rules, short)

pub bounds-self-i : goal.bounds-self-i
bounds-self-i c = inside c.args.self c.args.i c.requires

pub returns : goal.returns
returns c = rw c.as_str.ensures.value (shown_at c.args.self.first c.args.self.texts.now c.args.i c.index-self-i.result (inside c.args.self c.args.i c.requires))
