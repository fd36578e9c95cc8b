-- The pick of a row of cells is their greatest lower bound.
use Rattle.std.proofs.Common.{◌≡◌, ℕ, zero, suc, ◌-◌, ◌≤◌, sym, ap, ◌∙◌, subst, inl, inr, arith}
use Rattle.std.proofs.lemmas.Bool.{cases_lt}
use Rattle.cells.specs.Lattice.{Lattice}
use Rattle.filters.specs.Side.{Best}
use Rattle.filters.specs.Row.{picked}
use Rattle.filters.proofs.Bests.{best_same, best_meet}

module _ {C : Type 0} (k : Lattice C) (F : ℕ → C) where
  picked_more : (n : ℕ) → 1 ≤ n → picked k F n ≡ k.meet (picked k F (n - 1)) (F n)
  picked_more zero h = absurd (omega arith)
  picked_more (suc n) h = let e : n ≡ suc n - 1 = omega arith in ap (λ (m : ℕ). k.meet (picked k F m) (F (suc n))) e

  -- one cell more is picked
  pub pick_more : (n : ℕ) (v p q : C) → 1 ≤ n → v ≡ k.meet p q → p ≡ picked k F (n - 1) → q ≡ F n → v ≡ picked k F n
  pick_more n v p q h e s t = e ∙ ap (λ (m : C). k.meet m q) s ∙ ap (k.meet (picked k F (n - 1))) t ∙ sym (picked_more n h)

  pub picked_best : (S : ℕ → C → Type 0) (n : ℕ) → ((q : ℕ) → q ≤ n → Best k (S q) (F q)) → Best k (λ a. (q : ℕ) → q ≤ n → S q a) (picked k F n)
  picked_best S zero h =
      best_same k (S 0) (λ a. (q : ℕ) → q ≤ 0 → S q a) (F 0)
      (λ a s q m. let e : 0 ≡ q = omega arith in subst (λ (i : ℕ). S i a) e s)
      (λ a g. g 0 (omega arith))
      (h 0 (omega arith))
  picked_best S (suc n) h =
      best_same k (λ a. ((q : ℕ) → q ≤ n → S q a) × S (suc n) a) (λ a. (q : ℕ) → q ≤ suc n → S q a) _
      (λ a st q m. elim (cases_lt q (suc n)) [ inl i ↦ st.0 q (omega arith) | inr j ↦ let e : suc n ≡ q = omega arith in subst (λ (i : ℕ). S i a) e st.1 ])
      (λ a g. (λ q m. g q (omega arith), g (suc n) (omega arith)))
      (best_meet k _ _ _ _ (picked_best S n (λ q m. h q (omega arith))) (h (suc n) (omega arith)))
