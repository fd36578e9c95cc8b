-- What holds of every lattice holds of this one.
use Rattle.morphology.proofs.Runs.{four_sheets}
use Rattle.morphology.proofs.laws.four_sheets.Goals as goal

pub returns : goal.returns
returns g c = four_sheets g.K.Kind.lattice
