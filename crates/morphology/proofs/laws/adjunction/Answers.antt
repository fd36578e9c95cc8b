-- What holds of every lattice holds of this one.
use Rattle.morphology.proofs.Adjoint.{adjunction}
use Rattle.morphology.proofs.laws.adjunction.Goals as goal

pub returns : goal.returns
returns g c = adjunction g.K.Kind.lattice
