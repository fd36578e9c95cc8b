use Rattle.std.proofs.Common.{◌≡◌, [], ◌++◌, map, replicate, take, string_bytes}
use Rattle.texts.specs.Lines.{lines_before}
use Rattle.texts.proofs.line.drawn_lines.Given as goal

-- a blank line for each turn
abbrev pub invariant-loop-before : goal.invariant-loop-before
invariant-loop-before l = map string_bytes l.drawn.items ≡ replicate l._before []

-- and then the lines passed
abbrev pub invariant-loop-line : goal.invariant-loop-line
invariant-loop-line l = map string_bytes l.drawn.items ≡ replicate (lines_before l.lines) [] ++ map (λ p. p.text.now) (take l.line-index l.lines)
