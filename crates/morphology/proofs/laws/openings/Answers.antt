-- What holds of every lattice holds of this one.
use Rattle.morphology.proofs.Sheets.{openings}
use Rattle.morphology.proofs.laws.openings.Goals as goal

pub returns : goal.returns
returns g c = openings g.K.Kind.lattice
