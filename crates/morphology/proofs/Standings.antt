-- One filter more, told by the sort that came first.
use Rattle.std.proofs.Common.{◌≡◌, sym, subst₂}
use Rattle.cells.specs.Lattice.{Lattice}
use Rattle.morphology.specs.declared.standing.Sort.{Sort}
use Rattle.morphology.specs.declared.standing.Standing.{Standing}
use Rattle.morphology.specs.Standing.{Follows}

pub told : {C : Type 0} (k : Lattice C) (q q0 : Sort) (n n0 r : Standing) → q ≡ q0 → n ≡ n0 → Follows k q0 n0 r → Follows k q n r
told k q q0 n n0 r e is h = subst₂ (λ x y. Follows k x y r) (sym e) (sym is) h
