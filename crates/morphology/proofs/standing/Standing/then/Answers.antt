-- A filter done twice is a filter done once, and two in turn done twice are the two done once.
use Rattle.std.proofs.Common.{◌≡◌, refl, sym, subst, inl, inr, rules}
use Rattle.morphology.specs.declared.standing.Standing.TheVariants.{Once, Twice, Thrice}
use Rattle.morphology.specs.Standing.{other, by_sort, Follows}
use Rattle.morphology.proofs.Runs.{twice, again}
use Rattle.morphology.proofs.Standings.{told}
use Rattle.morphology.proofs.standing.Standing.then.Goals as goal

pub returns-then-ne : goal.returns-then-ne
returns-then-ne g c =
    let k = g.K.Kind.lattice in
    let a = c.in-Once.first in
    let e : c.args.sort ≡ other a = grind rules in
    elim c.in-Once.is [
      | inl is ↦ told k c.args.sort (other a) c.args.self (Once a) (Twice a) e is (λ m f. refl)
      | inr later ↦ elim later [
        | inl is ↦ told k c.args.sort (other a) c.args.self (Twice a) (Twice a) e is (λ m f. twice k m (other a) (by_sort k m a f))
        | inr is ↦ told k c.args.sort (other a) c.args.self (Thrice a) (Twice a) e is (λ m f. again k m a f)
      ]
    ]

pub returns-then-eq : goal.returns-then-eq
returns-then-eq g c =
    let k = g.K.Kind.lattice in
    let a = c.in-Once.first in
    let e : c.args.sort ≡ a = search rules in
    let is : c.args.self ≡ Once a = search rules in
    let left : c.in-Once.self ≡ Once a = search rules in
    subst (Follows k c.args.sort c.args.self) (sym left) (told k c.args.sort a c.args.self (Once a) (Once a) e is (λ m f. twice k m a f))

pub returns-else-eq : goal.returns-else-eq
returns-else-eq g c =
    let k = g.K.Kind.lattice in
    let a = c.in-Once.first in
    let e : c.args.sort ≡ a = search rules in
    elim c.in-Once.is [
      | inl is ↦ absurd (search rules)
      | inr later ↦ elim later [
        | inl is ↦ told k c.args.sort a c.args.self (Twice a) (Thrice a) e is (λ m f. refl)
        | inr is ↦ told k c.args.sort a c.args.self (Thrice a) (Thrice a) e is (λ m f. twice k m a (by_sort k m (other a) (by_sort k m a f)))
      ]
    ]
