-- After 31 rows each is the opposite row, its columns in the opposite order.
use Rattle.std.proofs.Common.{arith}
use Rattle.masks.proofs.Turns.{turned_holds, turned_some}
use Rattle.masks.proofs.mask.Mask.turned.Goals as goal

pub invariant_of-result : goal.invariant_of-result
invariant_of-result c = record { some = turned_some c.args.self.now.rows c.loop-r.rows (λ r x hr. c.loop-r.invariant.1 r (omega arith) x) c.args.self.now.some }

pub returns : goal.returns
returns c = turned_holds c.args.self.now.rows c.loop-r.rows (λ r x hr. c.loop-r.invariant.1 r (omega arith) x)
