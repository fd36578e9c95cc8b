-- Greatest lower bounds: there is one at most, and the pick of two bounds is that of both.
use Rattle.std.proofs.Common.{◌≡◌, ℕ, ◌+◌, ◌-◌, ◌<◌, ◌≤◌, sym, subst, inl, inr, arith}
use Rattle.std.proofs.lemmas.Bool.{cases_lt}
use Rattle.cells.specs.Lattice.{Lattice}
use Rattle.morphology.proofs.Cells.{under_trans, under_anti, meet_left, meet_right, meet_both}
use Rattle.filters.specs.Side.{Best}

module _ {C : Type 0} (k : Lattice C) where
  pub best_unique : (S : C → Type 0) (m n : C) → Best k S m → Best k S n → m ≡ n
  best_unique S m n p q = under_anti k m n ((q m).1 ((p m).0 (k.meet_idem m))) ((p n).1 ((q n).0 (k.meet_idem n)))

  pub best_meet : (S T : C → Type 0) (m n : C) → Best k S m → Best k T n → Best k (λ a. S a × T a) (k.meet m n)
  best_meet S T m n p q a = (
    λ u. ((p a).0 (under_trans k a (k.meet m n) m u (meet_left k m n)), (q a).0 (under_trans k a (k.meet m n) n u (meet_right k m n))),
    λ st. meet_both k a m n ((p a).1 st.0) ((q a).1 st.1),
  )

  pub best_same : (S T : C → Type 0) (m : C) → ((a : C) → S a → T a) → ((a : C) → T a → S a) → Best k S m → Best k T m
  best_same S T m f g p a = (λ u. f a ((p a).0 u), λ t. (p a).1 (g a t))

  pub best_at : (S : C → Type 0) (m n : C) → m ≡ n → Best k S n → Best k S m
  best_at S m n e p = subst (Best k S) (sym e) p

-- two runs of m places that start d apart, d at most m, are one of n = d + m
runs_one : (G : ℕ → Type 0) (c d m n : ℕ) → d ≤ m → n ≡ d + m → ((j : ℕ) → j < m → G (c + j)) → ((j : ℕ) → j < m → G (c + d + j)) → (j : ℕ) → j < n → G (c + j)
runs_one G c d m n h e f g j l =
    elim (cases_lt j m) [
      | inl a ↦ f j a
      | inr b ↦ let i : j - d < m = omega arith in let q : c + d + (j - d) ≡ c + j = omega arith in subst G q (g (j - d) i)
    ]

runs_left : (G : ℕ → Type 0) (c d m n : ℕ) → n ≡ d + m → ((j : ℕ) → j < n → G (c + j)) → (j : ℕ) → j < m → G (c + j)
runs_left G c d m n e f j l = f j (omega arith)

runs_right : (G : ℕ → Type 0) (c d m n : ℕ) → n ≡ d + m → ((j : ℕ) → j < n → G (c + j)) → (j : ℕ) → j < m → G (c + d + j)
runs_right G c d m n e f j l =
    let i : d + j < n = omega arith in let q : c + (d + j) ≡ c + d + j = omega arith in subst G q (f (d + j) i)

-- so the pick of the two is the greatest lower bound over the one
pub best_runs : {C : Type 0} (k : Lattice C) (G : ℕ → C → Type 0) (c d m n : ℕ) (x y : C) → d ≤ m → n ≡ d + m →
    Best k (λ a. (j : ℕ) → j < m → G (c + j) a) x → Best k (λ a. (j : ℕ) → j < m → G (c + d + j) a) y → Best k (λ a. (j : ℕ) → j < n → G (c + j) a) (k.meet x y)
best_runs k G c d m n x y h e p q =
    best_same k _ _ (k.meet x y)
    (λ a st. runs_one (λ i. G i a) c d m n h e st.0 st.1)
    (λ a f. (runs_left (λ i. G i a) c d m n e f, runs_right (λ i. G i a) c d m n e f))
    (best_meet k _ _ x y p q)
