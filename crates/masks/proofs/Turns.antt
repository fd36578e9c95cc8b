-- Rows that were turned about the origin.
use Rattle.std.proofs.Common.{◌≡◌, ℕ, zero, suc, ◌+◌, ◌-◌, ◌*◌, ◌/◌, ◌%◌, ◌^◌, ◌<◌, Bool, eqb, true, false, ◌&&◌, ltb, List, [], get_or, ℤ, pos, ◌+ℤ◌, neg_ℤ, sym, refl, ap, ◌∙◌, ap₂, inl, inr, arith, w32}
use Rattle.std.proofs.Math.Nat.{div-div-eq-div-mul}
use Rattle.std.proofs.lemmas.Nat.{pow-add}
use Rattle.std.proofs.lemmas.Int.{ints}
use Rattle.std.proofs.lemmas.Bool.{lt-ltb, cases_eq}
use Rattle.std.specs.Int.{reverse_bits, reverse_bits_onto}
use Rattle.bits.specs.Bit.{bit}
use Rattle.masks.specs.Points.{turned}
use Rattle.masks.specs.Rows.{marked, marked_at, holds, points}
use Rattle.masks.specs.declared.point.Point.{Point}
use Rattle.masks.proofs.Lists.{among_some, some_among}
use Rattle.masks.proofs.Grids.{held_at, held_among, among_held, marked_column, marked_row, same_point}

both_true : (a b : Bool) → (a ≡ true → b ≡ true) → (b ≡ true → a ≡ true) → a ≡ b
both_true true b f g = sym (f refl)
both_true false true f g = g refl
both_true false false f g = refl

-- a bit of half a number
bit_half : (i n : ℕ) → bit i (n / 2) ≡ bit (i + 1) n
bit_half i n =
    ap (λ (q : ℕ). eqb (q % 2) 1)
    (let e : 1 + i ≡ i + 1 = omega arith in div-div-eq-div-mul n 2 (2 ^ i) ∙ ap (λ (k : ℕ). n / k) (sym (pow-add 2 1 i)) ∙ ap (λ (k : ℕ). n / 2 ^ k) e)

-- the lowest k bits of n, last first, after the bits of a: where each bit stands
bit_after : (k n a i : ℕ) → bit (k + i) (reverse_bits_onto k n a) ≡ bit i a
unfolding reverse_bits_onto
bit_after zero n a i = let e : 0 + i ≡ i = omega arith in ap (λ (j : ℕ). bit j a) e
bit_after (suc k) n a i =
    let behind : ℕ = a * 2 + n % 2 in
    let half : behind / 2 ≡ a = omega arith in
    let e : suc k + i ≡ k + (i + 1) = omega arith in
    ap (λ (j : ℕ). bit j (reverse_bits_onto k (n / 2) behind)) e
    ∙ bit_after k (n / 2) behind (i + 1)
    ∙ sym (bit_half i behind)
    ∙ ap (bit i) half

bit_turned : (k n a i : ℕ) → i < k → bit i (reverse_bits_onto k n a) ≡ bit (k - 1 - i) n
unfolding reverse_bits_onto
bit_turned zero n a i h = absurd (omega arith)
bit_turned (suc k) n a i h = elim (cases_eq i k) [
  | inl e ↦
      let s : i ≡ k + 0 = omega arith in
      let z : suc k - 1 - i ≡ 0 = omega arith in
      let odd : (a * 2 + n % 2) / 2 ^ 0 % 2 ≡ n / 2 ^ 0 % 2 = omega arith in
      ap (λ (j : ℕ). bit j (reverse_bits_onto k (n / 2) (a * 2 + n % 2))) s
      ∙ bit_after k (n / 2) (a * 2 + n % 2) 0
      ∙ ap (λ (q : ℕ). eqb q 1) odd
      ∙ ap (λ (j : ℕ). bit j n) (sym z)
  | inr f ↦
      let s : k - 1 - i + 1 ≡ suc k - 1 - i = omega arith in
      bit_turned k (n / 2) (a * 2 + n % 2) i (omega arith) ∙ bit_half (k - 1 - i) n ∙ ap (λ (j : ℕ). bit j n) s
]

pub reversed_bit : (word i : ℕ) → i < 31 → bit i (reverse_bits w32 word / 2) ≡ bit (30 - i) word
reversed_bit word i h = bit_half i (reverse_bits w32 word) ∙ bit_turned 32 word 0 (i + 1) (omega arith) ∙ (let e : 32 - 1 - (i + 1) ≡ 30 - i = omega arith in ap (λ (j : ℕ). bit j word) e)

-- each row is the opposite row with its columns in the opposite order
abbrev pub Turned : List ℕ → List ℕ → Type 0
Turned rows out = (r c : ℕ) → r < 31 → c < 31 → bit c (get_or out r 0) ≡ bit (30 - c) (get_or rows (30 - r) 0)

module _ (rows out : List ℕ) (T : Turned rows out) where
  turned_marked : (c r : ℕ) → c < 31 → r < 31 → marked out c r ≡ marked rows (30 - c) (30 - r)
  turned_marked c r hc hr =
      ap₂ (λ (a b : Bool). a && (b && bit c (get_or out r 0))) (lt-ltb c 31 hc ∙ sym (lt-ltb (30 - c) 31 (omega arith))) (lt-ltb r 31 hr ∙ sym (lt-ltb (30 - r) 31 (omega arith)))
      ∙ ap (λ (a : Bool). ltb (30 - c) 31 && (ltb (30 - r) 31 && a)) (T r c hr hc)

  turned_to : (z w y x : ℤ) → z +ℤ y ≡ pos 30 → w +ℤ x ≡ pos 30 → marked_at out z w ≡ true → marked_at rows y x ≡ true
  turned_to z w y x e f h =
      let q = held_at out z w h in
      let hc = marked_column out q.0 q.1 q.4 in
      let hr = marked_row out q.0 q.1 q.4 in
      let ey : y ≡ pos (30 - q.0) = omega (arith, ints, e, q.2, hc) in
      let ex : x ≡ pos (30 - q.1) = omega (arith, ints, f, q.3, hr) in
      ap₂ (marked_at rows) ey ex ∙ sym (turned_marked q.0 q.1 hc hr) ∙ q.4

-- what is turned is turned back by turning it
turned_back : (rows out : List ℕ) → Turned rows out → Turned out rows
turned_back rows out T r c hr hc =
    let er : 30 - (30 - r) ≡ r = omega arith in
    let ec : 30 - (30 - c) ≡ c = omega arith in
    sym (T (30 - r) (30 - c) (omega arith) (omega arith) ∙ ap₂ (λ (i j : ℕ). bit i (get_or rows j 0)) ec er)

module _ (rows out : List ℕ) (T : Turned rows out) where
  -- a point is held where the one on the other side was
  pub turned_holds : (p : Point) → holds out p ≡ holds rows (turned p)
  turned_holds p =
      let e : (p.u +ℤ pos 15) +ℤ (neg_ℤ p.u +ℤ pos 15) ≡ pos 30 = omega (arith, ints) in
      let f : (p.v +ℤ pos 15) +ℤ (neg_ℤ p.v +ℤ pos 15) ≡ pos 30 = omega (arith, ints) in
      both_true (holds out p) (holds rows (turned p))
      (turned_to rows out T (p.u +ℤ pos 15) (p.v +ℤ pos 15) (neg_ℤ p.u +ℤ pos 15) (neg_ℤ p.v +ℤ pos 15) e f)
      (turned_to out rows (turned_back rows out T) (neg_ℤ p.u +ℤ pos 15) (neg_ℤ p.v +ℤ pos 15) (p.u +ℤ pos 15) (p.v +ℤ pos 15) (omega (arith, ints)) (omega (arith, ints)))

  -- so that where there was a point there is one
  pub turned_some : (points rows 31 ≡ [] → ⊥) → points out 31 ≡ [] → ⊥
  turned_some n =
      let s = some_among (points rows 31) n in
      let p = s.0 in
      let back : turned (turned p) ≡ p = same_point (turned (turned p)) p (omega (arith, ints)) (omega (arith, ints)) in
      among_some (points out 31) (turned p) (held_among out (turned p) (turned_holds (turned p) ∙ ap (holds rows) back ∙ among_held rows p s.1))
