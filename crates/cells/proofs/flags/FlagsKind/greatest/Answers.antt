use Rattle.cells.proofs.Bytes.{all_marks}
use Rattle.cells.proofs.flags.FlagsKind.greatest.Goals as goal

pub returns : goal.returns
returns c = all_marks
