-- A threshold is a lattice map: the smaller of two grays is below it where either is, the larger where both are.
use Rattle.std.proofs.Common.{◌≡◌, ℕ, ◌≤◌, Bool, true, false, cond, ◌&&◌, ◌||◌, ℤ, pos, sym, ap, ◌∙◌, ap₂, arith}
use lib.Signed.{lt_z}
use Rattle.std.specs.Int.{int_min, int_max}
use Rattle.std.proofs.lemmas.Int.{ints}
use Rattle.cells.specs.Lattice.{Lattice, LatticeMap}
use Rattle.cells.specs.Kinds.{GrayCell, grays, marks}
use Rattle.cells.specs.Threshold.{thresholded}
use Rattle.cells.proofs.Bytes.{no_marks, all_marks}

below_meet : (a b t : ℤ) → lt_z (int_min a b) t ≡ (lt_z a t || lt_z b t)
below_meet a b t = grind (arith, ints)

below_join : (a b t : ℤ) → lt_z (int_max a b) t ≡ (lt_z a t && lt_z b t)
below_join a b t = grind (arith, ints)

module _ {C : Type 0} (k : Lattice C) where
  -- the least cell where the test holds, else the greatest
  abbrev ends : Bool → C
  ends b = cond b k.least k.greatest

  greatest_meet : (a : C) → k.meet k.greatest a ≡ a
  greatest_meet a = k.meet_comm k.greatest a ∙ k.meet_greatest a

  least_join : (a : C) → k.join k.least a ≡ a
  least_join a = k.join_comm k.least a ∙ k.join_least a

  least_meet : (a : C) → k.meet k.least a ≡ k.least
  least_meet a = ap (k.meet k.least) (sym (least_join a)) ∙ k.meet_join k.least a

  greatest_join : (a : C) → k.join k.greatest a ≡ k.greatest
  greatest_join a = ap (k.join k.greatest) (sym (greatest_meet a)) ∙ k.join_meet k.greatest a

  ends_meet : (a b : Bool) → ends (a || b) ≡ k.meet (ends a) (ends b)
  ends_meet true b = sym (least_meet (ends b))
  ends_meet false b = sym (greatest_meet (ends b))

  ends_join : (a b : Bool) → ends (a && b) ≡ k.join (ends a) (ends b)
  ends_join true b = sym (least_join (ends b))
  ends_join false b = sym (greatest_join (ends b))

thresholded_ends : (t : ℕ) (c : GrayCell) → thresholded t c ≡ ends marks (lt_z c.number (pos t))
thresholded_ends t c = ap₂ (λ x y. cond (lt_z c.number (pos t)) x y) no_marks all_marks

pub threshold_map : (t : ℕ) → 1 ≤ t → t ≤ 255 → LatticeMap grays marks (thresholded t)
threshold_map t lo hi = record {
  meet = λ a b.
      thresholded_ends t (grays.meet a b)
      ∙ ap (ends marks) (below_meet a.number b.number (pos t))
      ∙ ends_meet marks (lt_z a.number (pos t)) (lt_z b.number (pos t))
      ∙ sym (ap₂ marks.meet (thresholded_ends t a) (thresholded_ends t b));
  join = λ a b.
      thresholded_ends t (grays.join a b)
      ∙ ap (ends marks) (below_join a.number b.number (pos t))
      ∙ ends_join marks (lt_z a.number (pos t)) (lt_z b.number (pos t))
      ∙ sym (ap₂ marks.join (thresholded_ends t a) (thresholded_ends t b));
  least = let e : lt_z (pos 0) (pos t) ≡ true = grind (arith, ints) in thresholded_ends t grays.least ∙ ap (ends marks) e;
  greatest = let e : lt_z (pos 255) (pos t) ≡ false = grind (arith, ints) in thresholded_ends t grays.greatest ∙ ap (ends marks) e;
}
