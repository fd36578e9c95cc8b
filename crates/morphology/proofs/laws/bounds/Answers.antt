-- What holds of every lattice holds of this one.
use Rattle.morphology.proofs.Meets.{bounds}
use Rattle.morphology.proofs.laws.bounds.Goals as goal

pub returns : goal.returns
returns g c = bounds g.K.Kind.lattice
