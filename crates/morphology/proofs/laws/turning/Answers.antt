-- What holds of every lattice holds of this one.
use Rattle.morphology.proofs.Gathers.{turning}
use Rattle.morphology.proofs.laws.turning.Goals as goal

pub returns : goal.returns
returns g c = turning g.K.Kind.lattice
