-- The meet of the cells of a list is their greatest lower bound.
use Rattle.std.proofs.Common.{◌≡◌, List, [], ◌∷◌, map, Some, None, Option, sym, refl, ap, subst, inl, inr}
use Rattle.cells.specs.Lattice.{Lattice, Under, dual}
use Rattle.masks.specs.Points.{Among}
use Rattle.morphology.specs.Bounds.{meets, Lower, GreatestLower, LeastUpper}
use Rattle.morphology.specs.Laws.{Bounds}
use Rattle.morphology.proofs.Cells.{under_trans, under_anti, under_flip, meet_left, meet_right, meet_both}

-- a lies under the cell that o has, if any
abbrev pub Covers : {C : Type 0} → Lattice C → C → Option C → Type 0
Covers k a None = Unit {0}
Covers k a (Some c) = Under k a c

module _ {C : Type 0} (k : Lattice C) where
  pub covers_trans : (a b : C) (o : Option C) → Under k a b → Covers k b o → Covers k a o
  covers_trans a b None p q = tt
  covers_trans a b (Some c) p q = under_trans k a b c p q

  covers_first : (o : Option C) (os : List (Option C)) → Covers k (meets k (o ∷ os)) o
  unfolding meets
  covers_first None os = tt
  covers_first (Some c) os = meet_left k c (meets k os)

  under_rest : (o : Option C) (os : List (Option C)) → Under k (meets k (o ∷ os)) (meets k os)
  unfolding meets
  under_rest None os = k.meet_idem (meets k os)
  under_rest (Some c) os = meet_right k c (meets k os)

  under_more : (a : C) (o : Option C) (os : List (Option C)) → Covers k a o → Under k a (meets k os) → Under k a (meets k (o ∷ os))
  unfolding meets
  under_more a None os p q = q
  under_more a (Some c) os p q = meet_both k a c (meets k os) p q

  under_greatest : (a : C) → Under k a (meets k [])
  unfolding meets
  under_greatest a = k.meet_greatest a

  module _ {P : Type 0} (look : P → Option C) where
    -- the meet of what is seen is a lower bound of it
    pub meets_under : (ps : List P) (p : P) → Among ps p → Covers k (meets k (map look ps)) (look p)
    meets_under [] p i = absurd i
    meets_under (q ∷ ps) p (inl e) = subst (λ r. Covers k (meets k (map look (q ∷ ps))) (look r)) (sym e)
        (covers_first (look q) (map look ps))
    meets_under (q ∷ ps) p (inr i) = covers_trans _ _ (look p) (under_rest (look q) (map look ps)) (meets_under ps p i)

    -- and the greatest
    pub under_meets : (ps : List P) (a : C) → ((p : P) → Among ps p → Covers k a (look p)) → Under k a (meets k (map look ps))
    under_meets [] a h = under_greatest a
    under_meets (p ∷ ps) a h = under_more a (look p) (map look ps) (h p (inl refl)) (under_meets ps a (λ q i. h q (inr i)))

map_self : {A : Type 0} (xs : List A) → map (λ x. x) xs ≡ xs
map_self [] = refl
map_self (x ∷ xs) = ap (λ ys. x ∷ ys) (map_self xs)

module _ {C : Type 0} (k : Lattice C) where
  covers_lower : (os : List (Option C)) (a : C) → Lower k os a → (o : Option C) → Among os o → Covers k a o
  covers_lower os a h None i = tt
  covers_lower os a h (Some c) i = h c i

  greatest_lower : (os : List (Option C)) → GreatestLower k os (meets k os)
  greatest_lower os = subst (λ l. GreatestLower k os (meets k l)) (map_self os) (record {
    lower = λ c i. meets_under k (λ o. o) os (Some c) i;
    greatest = λ a h. under_meets k (λ o. o) os a (covers_lower os a h);
  })

  greatest_only : (os : List (Option C)) (m : C) → GreatestLower k os m → m ≡ meets k os
  greatest_only os m g = under_anti k m (meets k os)
      ((greatest_lower os).greatest m g.lower) (g.greatest (meets k os) (greatest_lower os).lower)

-- a least upper bound is a greatest lower bound of the dual, and the other way round
upper : {C : Type 0} (k : Lattice C) (os : List (Option C)) (m : C) → GreatestLower (dual k) os m → LeastUpper k os m
upper k os m g = record {
  upper = λ c i. under_flip (dual k) m c (g.lower c i);
  least = λ a h. under_flip (dual k) a m (g.greatest a (λ c i. under_flip k c a (h c i)));
}

lower : {C : Type 0} (k : Lattice C) (os : List (Option C)) (m : C) → LeastUpper k os m → GreatestLower (dual k) os m
lower k os m u = record {
  lower = λ c i. under_flip k c m (u.upper c i);
  greatest = λ a h. under_flip k m a (u.least a (λ c i. under_flip (dual k) a c (h c i)));
}

pub bounds : {C : Type 0} (k : Lattice C) → Bounds k
bounds k = record {
  meets_greatest = greatest_lower k;
  meets_only = greatest_only k;
  joins_least = λ os. upper k os _ (greatest_lower (dual k) os);
  joins_only = λ os m u. greatest_only (dual k) os m (lower k os m u);
}
