use Rattle.std.proofs.Common.{◌≡◌, ◌+◌, ◌++◌, drop, vec_items}
use Rattle.drawings.specs.Signs.{numbered}
use Rattle.drawings.proofs.drawing.add_line.Given as goal

-- what is left of the line leads to the same end
abbrev pub invariant-loop-i : goal.invariant-loop-i
invariant-loop-i l =
    vec_items l.marks ++ numbered l.line (l.i + 1) (drop l.i l.text) ≡ vec_items l.initial.marks ++ numbered l.line 1 l.text
