-- Bounded lattices, and each one seen from its other side. Assumes nothing.
--     Lattice C          least, greatest, meet, join, and their laws
--     Under k a b        a lies under b
--     Above k a b        a lies strictly above b
--     Comparable k       of two different cells one is strictly above the other
--     dual k             k with its two sides exchanged
--     LatticeMap k l h   h carries the lattice k to the lattice l
use Rattle.std.specs.Prelude.{◌≡◌, ◌⊎◌, ◌≢◌}

-- Two picks, the meet and the join, and the two cells that bound all others.
pub record Lattice (C : Type 0) : Type 0 where
  pub least : C
  pub greatest : C
  pub meet : C → C → C
  pub join : C → C → C
  pub meet_assoc : (a b c : C) → meet (meet a b) c ≡ meet a (meet b c)
  pub meet_comm : (a b : C) → meet a b ≡ meet b a
  pub meet_idem : (a : C) → meet a a ≡ a
  pub join_assoc : (a b c : C) → join (join a b) c ≡ join a (join b c)
  pub join_comm : (a b : C) → join a b ≡ join b a
  pub join_idem : (a : C) → join a a ≡ a
  pub meet_join : (a b : C) → meet a (join a b) ≡ a
  pub join_meet : (a b : C) → join a (meet a b) ≡ a
  pub meet_greatest : (a : C) → meet a greatest ≡ a
  pub join_least : (a : C) → join a least ≡ a

-- a lies under b: their meet is a
abbrev pub Under : {C : Type 0} → Lattice C → C → C → Type 0
Under k a b = k.meet a b ≡ a

-- a lies strictly above b: b lies under a, and they differ
abbrev pub Above : {C : Type 0} → Lattice C → C → C → Type 0
Above k a b = Under k b a × (a ≢ b)

-- of two different cells one is strictly above the other
abbrev pub Comparable : {C : Type 0} → Lattice C → Type 0
Comparable {C} k = (a b : C) → (a ≢ b) → Above k a b ⊎ Above k b a

-- the same cells, with meet and join exchanged, and least and greatest
abbrev pub dual : {C : Type 0} → Lattice C → Lattice C
dual k = record {
  least = k.greatest;
  greatest = k.least;
  meet = k.join;
  join = k.meet;
  meet_assoc = k.join_assoc;
  meet_comm = k.join_comm;
  meet_idem = k.join_idem;
  join_assoc = k.meet_assoc;
  join_comm = k.meet_comm;
  join_idem = k.meet_idem;
  meet_join = k.join_meet;
  join_meet = k.meet_join;
  meet_greatest = k.join_least;
  join_least = k.meet_greatest;
}

-- h carries meet to meet, join to join, least to least and greatest to greatest
pub record LatticeMap {A B : Type 0} (k : Lattice A) (l : Lattice B) (h : A → B) : Type 0 where
  pub meet : (a b : A) → h (k.meet a b) ≡ l.meet (h a) (h b)
  pub join : (a b : A) → h (k.join a b) ≡ l.join (h a) (h b)
  pub least : h k.least ≡ l.least
  pub greatest : h k.greatest ≡ l.greatest
