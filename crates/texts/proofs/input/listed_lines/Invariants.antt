use Rattle.std.proofs.Common.{All}
use Rattle.texts.specs.Inputs.{LacksFeed}
use Rattle.texts.proofs.input.listed_lines.Given as goal

-- the lines so far
abbrev pub invariant-loop-line : goal.invariant-loop-line
invariant-loop-line g l = All LacksFeed l.lines.items
