-- The raw words that are left, read from here, are read as all of them.
use Rattle.std.proofs.Common.{◌≡◌, ◌-◌}
use Rattle.strips.specs.Reading.{raws_due}
use Rattle.strips.specs.Views.{left}
use Rattle.strips.proofs.strip.Strip.raws.Given as goal

abbrev pub invariant-loop : goal.invariant-loop
invariant-loop l = raws_due l.kind (l.n - l.counter) (left l.self) ≡ raws_due l.kind l.n (left l.fn.self)
