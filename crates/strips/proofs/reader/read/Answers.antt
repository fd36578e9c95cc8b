-- What is read is spelled so, what is spelled so is read, and what is neither is told where it stops.
use Rattle.std.proofs.Common.{subst, arith}
use Rattle.strips.specs.Views.{Reads}
use Rattle.strips.proofs.Trips.{found, retold}
use Rattle.strips.proofs.Firsts.{tells_first}
use Rattle.strips.proofs.Grounds.{tells_ground}
use Rattle.strips.proofs.reader.read.Goals as goal

pub returns-clause-found : goal.returns-clause-found
returns-clause-found c = found c.args.bytes.now c.judged.result (λ i. omega (arith, c.type_inv.bytes i)) c.judged.ensures

pub returns-clause-only : goal.returns-clause-only
returns-clause-only c = λ j t. subst (λ r. Reads r c.judged.result) (retold c.args.bytes.now j t) c.judged.ensures

pub returns-clause-first : goal.returns-clause-first
returns-clause-first c = tells_first c.args.bytes.now c.judged.result (λ i. omega (arith, c.type_inv.bytes i)) c.judged.ensures

pub returns-clause-cause : goal.returns-clause-cause
returns-clause-cause c = tells_ground c.args.bytes.now c.judged.result (λ i. omega (arith, c.type_inv.bytes i)) c.judged.ensures
