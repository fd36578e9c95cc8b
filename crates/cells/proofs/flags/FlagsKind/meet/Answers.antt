-- Mark by mark.
use mathlib.Core.Path.{fun_ext}
use Rattle.bits.proofs.SingleBits.{bit_of_and}
use Rattle.cells.proofs.flags.FlagsKind.meet.Goals as goal

pub returns : goal.returns
returns c = fun_ext (λ m. bit_of_and m.0 c.args.self.0 c.args.other.0)
