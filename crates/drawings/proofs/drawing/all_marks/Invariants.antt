use Rattle.std.proofs.Common.{◌≡◌, ◌+◌, ◌++◌, map, drop, vec_items, string_bytes}
use Rattle.drawings.specs.Signs.{marks}
use Rattle.drawings.proofs.drawing.all_marks.Given as goal

-- what is left of the lines leads to the same end
abbrev pub invariant-loop-i : goal.invariant-loop-i
invariant-loop-i l = vec_items l.all ++ marks (l.i + 1) (map string_bytes (drop l.i l.lines)) ≡ marks 1 (map string_bytes l.lines)
