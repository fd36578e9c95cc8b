-- What holds of every two lattices holds of these two.
use Rattle.morphology.proofs.Maps.{matching}
use Rattle.morphology.proofs.laws.matching.Goals as goal

pub returns : goal.returns
returns g c = matching g.A.Kind.lattice g.B.Kind.lattice
