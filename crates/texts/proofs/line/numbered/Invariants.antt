use Rattle.std.proofs.Common.{◌≡◌, ◌++◌, map, drop, string_bytes}
use Rattle.texts.specs.Lines.{told, numbered_from, shown}
use Rattle.texts.proofs.line.numbered.Given as goal

-- what is left of the lines leads to the same end
abbrev pub invariant-loop-i : goal.invariant-loop-i
invariant-loop-i l = map told l.numbered.items ++ drop l.i (shown l.view) ≡ numbered_from 1 (map string_bytes l.lines)
