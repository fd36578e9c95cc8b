-- Whole numbers between two bounds, as a lattice: the meet is the smaller number, the join the larger.
--     Within lo hi         a number from lo to hi
--     clamped lo hi h z    z, held between lo and hi; h says that lo is at most hi
--     chain lo hi h        their lattice
use Rattle.std.specs.Prelude.{◌≡◌, ℤ, ◌≤ℤ◌, int_le}
use mathlib.Core.HLevel.{is_prop→PathP}
use Rattle.std.proofs.Math.Dec.{T_prop}
use Rattle.std.specs.Int.Signed.{≤ℤ_refl}
use Rattle.std.specs.Int.{int_min, int_max}
use Rattle.cells.specs.Lattice.{Lattice}
use Rattle.cells.specs.Picks.{min_low, min_high, max_low, max_high, clamped_low, clamped_high, min_assoc, min_comm, min_idem, max_assoc, max_comm, max_idem, min_max, max_min, min_bound, max_bound}

-- a whole number from lo to hi
pub record Within (lo hi : ℤ) : Type 0 where
  pub number : ℤ
  pub low : lo ≤ℤ number
  pub high : number ≤ℤ hi

≤ℤ_prop : (a b : ℤ) → IsProp (a ≤ℤ b)
≤ℤ_prop a b x y = λ i. record { le = T_prop (int_le a b) x.le y.le i }

-- two of them are the same where their numbers are
pub same_number : {lo hi : ℤ} (a b : Within lo hi) → a.number ≡ b.number → a ≡ b
same_number {lo} {hi} a b e = λ i. record {
  number = e i;
  low = is_prop→PathP (λ j. lo ≤ℤ e j) (λ j. ≤ℤ_prop lo (e j)) a.low b.low i;
  high = is_prop→PathP (λ j. e j ≤ℤ hi) (λ j. ≤ℤ_prop (e j) hi) a.high b.high i;
}

module _ {lo hi : ℤ} where
  -- the smaller and the larger of two
  abbrev pub smaller : Within lo hi → Within lo hi → Within lo hi
  smaller a b = record {
    number = int_min a.number b.number;
    low = min_low a.number b.number a.low b.low;
    high = min_high a.number b.number a.high;
  }

  abbrev pub larger : Within lo hi → Within lo hi → Within lo hi
  larger a b = record {
    number = int_max a.number b.number;
    low = max_low a.number b.number a.low;
    high = max_high a.number b.number a.high b.high;
  }

-- the number of them that is nearest to z: z itself, where z is one
abbrev pub clamped : (lo hi : ℤ) → lo ≤ℤ hi → ℤ → Within lo hi
clamped lo hi h z = record {
  number = int_max lo (int_min z hi);
  low = clamped_low lo hi z;
  high = clamped_high lo hi z h;
}

abbrev pub chain : (lo hi : ℤ) → lo ≤ℤ hi → Lattice (Within lo hi)
chain lo hi h = record {
  least = record { number = lo; low = ≤ℤ_refl lo; high = h };
  greatest = record { number = hi; low = h; high = ≤ℤ_refl hi };
  meet = smaller;
  join = larger;
  meet_assoc = λ a b c. same_number _ _ (min_assoc a.number b.number c.number);
  meet_comm = λ a b. same_number _ _ (min_comm a.number b.number);
  meet_idem = λ a. same_number _ _ (min_idem a.number);
  join_assoc = λ a b c. same_number _ _ (max_assoc a.number b.number c.number);
  join_comm = λ a b. same_number _ _ (max_comm a.number b.number);
  join_idem = λ a. same_number _ _ (max_idem a.number);
  meet_join = λ a b. same_number _ _ (min_max a.number b.number);
  join_meet = λ a b. same_number _ _ (max_min a.number b.number);
  meet_greatest = λ a. same_number _ _ (min_bound a.number hi a.high);
  join_least = λ a. same_number _ _ (max_bound a.number lo a.low);
}
