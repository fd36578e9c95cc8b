-- The lines so far are written.
use Rattle.std.proofs.Common.{◌≡◌, take, string_bytes}
use Rattle.jobs.specs.Texts.{text}
use Rattle.jobs.proofs.text.text.Given as goal

abbrev pub invariant-loop-line : goal.invariant-loop-line
invariant-loop-line l = string_bytes l.text ≡ text (take l.line-index l.listing)
