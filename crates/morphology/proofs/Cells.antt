-- The order of a lattice.
use Rattle.std.proofs.Common.{◌≡◌, sym, ap, ◌∙◌}
use Rattle.cells.specs.Lattice.{Lattice, Under, dual}

module _ {C : Type 0} (k : Lattice C) where
  pub under_trans : (a b c : C) → Under k a b → Under k b c → Under k a c
  under_trans a b c p q = ap (λ m. k.meet m c) (sym p) ∙ k.meet_assoc a b c ∙ ap (k.meet a) q ∙ p

  pub under_anti : (a b : C) → Under k a b → Under k b a → a ≡ b
  under_anti a b p q = sym p ∙ k.meet_comm a b ∙ q

  -- what lies under lies over in the dual
  pub under_flip : (a b : C) → Under k a b → Under (dual k) b a
  under_flip a b p = ap (k.join b) (sym p ∙ k.meet_comm a b) ∙ k.join_meet b a

  pub meet_right : (a b : C) → Under k (k.meet a b) b
  meet_right a b = k.meet_assoc a b b ∙ ap (k.meet a) (k.meet_idem b)

  pub meet_left : (a b : C) → Under k (k.meet a b) a
  meet_left a b = ap (λ m. k.meet m a) (k.meet_comm a b) ∙ meet_right b a ∙ k.meet_comm b a

  pub meet_both : (c a b : C) → Under k c a → Under k c b → Under k c (k.meet a b)
  meet_both c a b p q = sym (k.meet_assoc c a b) ∙ ap (λ m. k.meet m b) p ∙ q
