-- What holds of every kind that is ordered by a level holds of this one.
use Rattle.morphology.proofs.Mids.{mid_laws}
use Rattle.morphology.proofs.laws.mids.Goals as goal

pub returns : goal.returns
returns g c = mid_laws g.K.Kind.lattice g.K.Kind.means g.K.Measured.level
