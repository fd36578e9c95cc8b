use Rattle.std.proofs.Common.{◌≡◌, drop}
use Rattle.drawings.specs.Readings.{origin_of}
use Rattle.drawings.proofs.Origins.{resumed}
use Rattle.drawings.proofs.drawing.origin_of.Given as goal

-- what is left of the marks leads to the same answer
abbrev pub invariant-loop-m : goal.invariant-loop-m
invariant-loop-m l = resumed l.found (drop l.m-index l.marks) ≡ origin_of l.marks
