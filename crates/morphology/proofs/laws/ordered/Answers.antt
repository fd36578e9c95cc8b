-- What holds of every lattice holds of this one.
use Rattle.morphology.proofs.Sheets.{ordered}
use Rattle.morphology.proofs.laws.ordered.Goals as goal

pub returns : goal.returns
returns g c = ordered g.K.Kind.lattice
