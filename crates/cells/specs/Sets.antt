-- The sets of things of one sort, as a lattice: the meet holds what is in both, the join what is in either.
--     Subset I         a set of things of the sort I
--     subsets I        their lattice
use Rattle.std.specs.Prelude.{◌≡◌, Bool, true, false, ◌&&◌, ◌||◌, refl}
use Rattle.std.proofs.Math.Path.{fun_ext}
use Rattle.std.proofs.Math.Bool.{and_assoc, or_assoc, and_comm, or_comm, and_self, or_self, and-true, or-false}
use Rattle.cells.specs.Lattice.{Lattice}

-- a set says of each thing whether it is in it
abbrev pub Subset : Type 0 → Type 0
Subset I = I → Bool

pub and_or : (a b : Bool) → (a && (a || b)) ≡ a
and_or true b = refl
and_or false b = refl

pub or_and : (a b : Bool) → (a || (a && b)) ≡ a
or_and true b = refl
or_and false b = refl

abbrev pub subsets : (I : Type 0) → Lattice (Subset I)
subsets I = record {
  least = λ i. false;
  greatest = λ i. true;
  meet = λ a b i. a i && b i;
  join = λ a b i. a i || b i;
  meet_assoc = λ a b c. fun_ext (λ i. and_assoc (a i) (b i) (c i));
  meet_comm = λ a b. fun_ext (λ i. and_comm (a i) (b i));
  meet_idem = λ a. fun_ext (λ i. and_self (a i));
  join_assoc = λ a b c. fun_ext (λ i. or_assoc (a i) (b i) (c i));
  join_comm = λ a b. fun_ext (λ i. or_comm (a i) (b i));
  join_idem = λ a. fun_ext (λ i. or_self (a i));
  meet_join = λ a b. fun_ext (λ i. and_or (a i) (b i));
  join_meet = λ a b. fun_ext (λ i. or_and (a i) (b i));
  meet_greatest = λ a. fun_ext (λ i. and-true (a i));
  join_least = λ a. fun_ext (λ i. or-false (a i));
}
