-- What holds of every lattice holds of this one.
use Rattle.morphology.proofs.HitLists.{one_hit_list}
use Rattle.morphology.proofs.laws.one_hit_list.Goals as goal

pub returns : goal.returns
returns g c = one_hit_list g.K.Kind.lattice
