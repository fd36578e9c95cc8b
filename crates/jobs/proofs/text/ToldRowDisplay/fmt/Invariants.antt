-- The cells so far are written behind the first.
use Rattle.std.proofs.Common.{take}
use Rattle.std.specs.Fmt.{HasWritten, IsPlainFormatter}
use Rattle.jobs.specs.Texts.{rest_text}
use Rattle.jobs.proofs.text.ToldRowDisplay.fmt.Given as goal

abbrev pub invariant-loop-word : goal.invariant-loop-word
invariant-loop-word g l = IsPlainFormatter l.initial.f → HasWritten g.W.Write.write_str_gives l.initial.f (rest_text l.kind (take l.word-index l.rest)) l.f
