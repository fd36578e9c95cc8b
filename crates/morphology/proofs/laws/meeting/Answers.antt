-- What holds of every lattice holds of this one.
use Rattle.morphology.proofs.Sheets.{meeting}
use Rattle.morphology.proofs.laws.meeting.Goals as goal

pub returns : goal.returns
returns g c = meeting g.K.Kind.lattice
