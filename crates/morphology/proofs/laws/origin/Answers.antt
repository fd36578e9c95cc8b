-- What holds of every lattice holds of this one.
use Rattle.morphology.proofs.Sheets.{origin_held}
use Rattle.morphology.proofs.laws.origin.Goals as goal

pub returns : goal.returns
returns g c = origin_held g.K.Kind.lattice
