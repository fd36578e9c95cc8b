use Rattle.std.proofs.Common.{◌≡◌, [], ◌++◌, map, replicate, drop, string_bytes}
use Rattle.texts.specs.Lines.{shown}
use Rattle.texts.specs.Views.{drawn_in}
use Rattle.texts.proofs.line.drawn_lines_in.Given as goal

-- a blank line for each turn
abbrev pub invariant-loop-before : goal.invariant-loop-before
invariant-loop-before l = map string_bytes l.drawn.items ≡ replicate l._before []

-- and then what is left of the lines leads to the same end
abbrev pub invariant-loop-i : goal.invariant-loop-i
invariant-loop-i l = map string_bytes l.drawn.items ++ map (λ p. p.1) (drop l.i (shown l.lines)) ≡ drawn_in (shown l.lines)
