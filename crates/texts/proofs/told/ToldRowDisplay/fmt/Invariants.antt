-- The cells so far are written.
use Rattle.std.proofs.Common.{take}
use Rattle.std.specs.Fmt.{HasWritten, IsPlainFormatter}
use Rattle.texts.specs.Told.{cells_text}
use Rattle.texts.proofs.told.ToldRowDisplay.fmt.Given as goal

abbrev pub invariant-loop-cell : goal.invariant-loop-cell
invariant-loop-cell g l = IsPlainFormatter l.initial.f → HasWritten g.W.Write.write_str_gives l.initial.f (cells_text g.K.WordForm.writes (take l.cell-index l.self.0.now)) l.f
