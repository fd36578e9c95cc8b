-- What holds of every lattice holds of this one.
use Rattle.morphology.proofs.Sheets.{monotone}
use Rattle.morphology.proofs.laws.monotone.Goals as goal

pub returns : goal.returns
returns g c = monotone g.K.Kind.lattice
