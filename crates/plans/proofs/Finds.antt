-- Where things stand in a list, and lists that climb.
use Rattle.std.proofs.Common.{◌≡◌, ℕ, zero, suc, ◌+◌, ◌-◌, ◌<◌, ◌≤◌, Bool, true, false, cond, not, eqb, List, [], ◌∷◌, length, get_or, sym, refl, ap, ◌∙◌, subst, inl, inr, one-add, arith}
use Rattle.std.proofs.lemmas.Bool.{cases_eq, eq-eqb, ne_eqb}
use Rattle.masks.specs.Points.{Among}
use Rattle.masks.specs.Lengths.{Climbs}
use Rattle.plans.specs.Placed.{index_of}

-- what stands at a place is in the list, and what is in the list stands at some place
pub getD_among : {X : Type 0} (xs : List X) (i : ℕ) (d : X) → i < length xs → Among xs (get_or xs i d)
getD_among [] i d h = absurd (omega arith)
getD_among (x ∷ xs) zero d h = inl refl
getD_among (x ∷ xs) (suc i) d h = inr (getD_among xs i d (omega arith))

pub among_getD : {X : Type 0} (xs : List X) (x d : X) → Among xs x → (i : ℕ) × (i < length xs) × (x ≡ get_or xs i d)
among_getD [] x d i = absurd i
among_getD (y ∷ xs) x d (inl e) = (0, omega arith, e)
among_getD (y ∷ xs) x d (inr i) = let r = among_getD xs x d i in (suc r.0, omega (arith, r.1), r.2)

-- a number of the list is found at its index
index_more : (b a : ℕ) (ns : List ℕ) → eqb b a ≡ false → index_of (b ∷ ns) a ≡ suc (index_of ns a)
index_more b a ns e = ap (λ (t : Bool). cond (not t) (1 + index_of ns a) 0) e ∙ one-add (index_of ns a)

index_first : (b a : ℕ) (ns : List ℕ) → eqb b a ≡ true → index_of (b ∷ ns) a ≡ 0
index_first b a ns e = ap (λ (t : Bool). cond (not t) (1 + index_of ns a) 0) e

pub index_found : (ns : List ℕ) (a : ℕ) → Among ns a → (index_of ns a < length ns) × (get_or ns (index_of ns a) 0 ≡ a)
index_found [] a i = absurd i
index_found (b ∷ ns) a i =
    elim (cases_eq b a) [
      | inl e ↦
          let z = index_first b a ns (eq-eqb b a e) in
          (omega (arith, z), ap (λ (k : ℕ). get_or (b ∷ ns) k 0) z ∙ e)
      | inr e ↦
          let z = index_more b a ns (ne_eqb b a e) in
          let r = index_found ns a (elim i [ inl q ↦ absurd (e (sym q)) | inr j ↦ j ]) in
          (omega (arith, z, r.0), ap (λ (k : ℕ). get_or (b ∷ ns) k 0) z ∙ r.1)
    ]

-- each number of a climbing list is above the one before it and at most its double
climb : (a : ℕ) (bs : List ℕ) → Climbs a bs → (j : ℕ) → j < length bs → (get_or (a ∷ bs) j 0 < get_or bs j 0) × (get_or bs j 0 ≤ get_or (a ∷ bs) j 0 + get_or (a ∷ bs) j 0)
climb a [] C j h = absurd (omega arith)
climb a (b ∷ bs) C zero h = (C.0, C.1)
climb a (b ∷ bs) C (suc j) h = climb b bs C.2 j (omega arith)

pub climbs_at : (a : ℕ) (bs : List ℕ) → Climbs a bs → (i : ℕ) → 1 ≤ i → i < length (a ∷ bs) →
    (get_or (a ∷ bs) (i - 1) 0 < get_or (a ∷ bs) i 0) × (get_or (a ∷ bs) i 0 ≤ get_or (a ∷ bs) (i - 1) 0 + get_or (a ∷ bs) (i - 1) 0)
climbs_at a bs C i h l =
    let e : suc (i - 1) ≡ i = omega arith in
    subst (λ (n : ℕ). (get_or (a ∷ bs) (i - 1) 0 < get_or (a ∷ bs) n 0) × (get_or (a ∷ bs) n 0 ≤ get_or (a ∷ bs) (i - 1) 0 + get_or (a ∷ bs) (i - 1) 0)) e
    (climb a bs C (i - 1) (omega arith))

-- none is below the first
pub climbs_low : (a : ℕ) (bs : List ℕ) → Climbs a bs → (i : ℕ) → i < length (a ∷ bs) → a ≤ get_or (a ∷ bs) i 0
climbs_low a bs C zero h = omega arith
climbs_low a [] C (suc i) h = absurd (omega arith)
climbs_low a (b ∷ bs) C (suc i) h = let r = climbs_low b bs C.2 i (omega arith) in omega (arith, r, C.0)
