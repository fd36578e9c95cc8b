-- What stands in a list that was made from others, and lists that grow by one.
use Rattle.std.proofs.Common.{◌≡◌, ℕ, zero, suc, ◌+◌, ◌<◌, ◌≤◌, Bool, true, false, cond, ltb, ◌⊎◌, None, Some, List, [], ◌∷◌, ◌++◌, map, length, filter, sym, refl, ap, ◌∙◌, subst, inl, inr, arith}
use Rattle.std.specs.List.{range_with_len, flat_map, prefix_len, AllByRecursion}
use Rattle.std.proofs.lemmas.List.Elements.{filter-append}
use Rattle.std.proofs.lemmas.List.{append-nil, append_assoc, length-append}
use Rattle.std.proofs.lemmas.Bool.{cases_Bool, cases_eq, ltb-false}
use Rattle.masks.specs.Points.{Among}

module _ {X : Type 0} where
  pub among_left : (xs ys : List X) (x : X) → Among xs x → Among (xs ++ ys) x
  among_left [] ys x i = absurd i
  among_left (z ∷ xs) ys x (inl e) = inl e
  among_left (z ∷ xs) ys x (inr i) = inr (among_left xs ys x i)

  pub among_right : (xs ys : List X) (x : X) → Among ys x → Among (xs ++ ys) x
  among_right [] ys x i = i
  among_right (z ∷ xs) ys x i = inr (among_right xs ys x i)

  pub among_either : (xs ys : List X) (x : X) → Among (xs ++ ys) x → Among xs x ⊎ Among ys x
  among_either [] ys x i = inr i
  among_either (z ∷ xs) ys x (inl e) = inl (inl e)
  among_either (z ∷ xs) ys x (inr i) = elim (among_either xs ys x i) [ inl j ↦ inl (inr j) | inr j ↦ inr j ]

  pub among_last : (xs : List X) (x : X) → Among (xs ++ x ∷ []) x
  among_last xs x = among_right xs (x ∷ []) x (inl refl)

  pub among_push : (xs : List X) (y x : X) → Among (xs ++ y ∷ []) x → Among xs x ⊎ (x ≡ y)
  among_push xs y x i = elim (among_either xs (y ∷ []) x i) [ inl j ↦ inl j | inr j ↦ elim j [ inl e ↦ inr e | inr n ↦ absurd n ] ]

  -- a list with something in it is not empty
  pub among_some : (xs : List X) (x : X) → Among xs x → xs ≡ [] → ⊥
  among_some xs x i e = subst (λ (l : List X). Among l x) e i

  pub among_length : (xs : List X) (x : X) → Among xs x → 1 ≤ length xs
  among_length [] x i = absurd i
  among_length (y ∷ xs) x i = omega arith

  pub all_among : (P : X → Type 0) (xs : List X) → ((x : X) → Among xs x → P x) → AllByRecursion P xs
  all_among P [] h = tt
  all_among P (x ∷ xs) h = (h x (inl refl), all_among P xs (λ y i. h y (inr i)))

  pub among_all : (P : X → Type 0) (xs : List X) (x : X) → AllByRecursion P xs → Among xs x → P x
  among_all P [] x a i = absurd i
  among_all P (y ∷ xs) x a (inl e) = subst P (sym e) a.0
  among_all P (y ∷ xs) x a (inr i) = among_all P xs x a.1 i

  -- a list that is not empty has something in it
  pub some_among : (xs : List X) → (xs ≡ [] → ⊥) → (x : X) × Among xs x
  some_among [] n = absurd (n refl)
  some_among (x ∷ xs) n = (x, inl refl)

module _ {X : Type 0} (p : X → Bool) where
  keep : (x y : X) (ys : List X) → (b : Bool) → Among ys x → Among (cond b (y ∷ ys) ys) x
  keep x y ys true i = inr i
  keep x y ys false i = i

  keep_first : (y : X) (ys : List X) (b : Bool) → b ≡ true → Among (cond b (y ∷ ys) ys) y
  keep_first y ys b e = subst (λ (t : Bool). Among (cond t (y ∷ ys) ys) y) (sym e) (inl refl)

  pub among_kept : (xs : List X) (x : X) → Among xs x → p x ≡ true → Among (filter p xs) x
  among_kept [] x i e = absurd i
  among_kept (y ∷ xs) x (inl q) e =
      subst (λ (z : X). Among (filter p (y ∷ xs)) z) (sym q) (keep_first y (filter p xs) (p y) (ap p (sym q) ∙ e))
  among_kept (y ∷ xs) x (inr i) e = keep x y (filter p xs) (p y) (among_kept xs x i e)

  kept_cases : (y x : X) (ys : List X) (b : Bool) → Among (cond b (y ∷ ys) ys) x → ((x ≡ y) × (b ≡ true)) ⊎ Among ys x
  kept_cases y x ys true (inl e) = inl (e, refl)
  kept_cases y x ys true (inr i) = inr i
  kept_cases y x ys false i = inr i

  pub kept_among : (xs : List X) (x : X) → Among (filter p xs) x → Among xs x × (p x ≡ true)
  kept_among [] x i = absurd i
  kept_among (y ∷ xs) x i =
      elim (kept_cases y x (filter p xs) (p y) i) [
        | inl h ↦ (inl h.0, ap p h.0 ∙ h.1)
        | inr j ↦ let k = kept_among xs x j in (inr k.0, k.1)
      ]

  -- where the longest front that passes is the whole list, all pass
  pub leading_all : (xs : List X) → length xs ≤ prefix_len p xs → AllByRecursion (λ x. p x ≡ true) xs
  leading_all [] h = tt
  leading_all (x ∷ xs) h = elim (cases_Bool (p x)) [
    | inl e ↦ (e, leading_all xs (let g = rw e at h in omega arith))
    | inr e ↦ absurd (let g = rw e at h in omega arith)
  ]

  none_fail : (b : Bool) (i n : ℕ) → b ≡ ltb i n → None ≡ cond b (Some i) None → n ≤ i
  none_fail true i n t e = absurd (let z : ◌≡◌ {A = ℕ} 0 1 = cc in omega arith)
  none_fail false i n t e = ltb-false i n (sym t)

  -- where no first one fails, all pass
  pub none_beyond : (xs : List X) → None ≡ cond (ltb (prefix_len p xs) (length xs)) (Some (prefix_len p xs)) None → AllByRecursion (λ x. p x ≡ true) xs
  none_beyond xs e = leading_all xs (none_fail (ltb (prefix_len p xs) (length xs)) (prefix_len p xs) (length xs) refl e)

module _ {X Y : Type 0} (f : X → Y) where
  pub among_map : (xs : List X) (x : X) → Among xs x → Among (map f xs) (f x)
  among_map [] x i = absurd i
  among_map (y ∷ xs) x (inl e) = inl (ap f e)
  among_map (y ∷ xs) x (inr i) = inr (among_map xs x i)

  pub map_among : (xs : List X) (y : Y) → Among (map f xs) y → (x : X) × Among xs x × (y ≡ f x)
  map_among [] y i = absurd i
  map_among (x ∷ xs) y (inl e) = (x, inl refl, e)
  map_among (x ∷ xs) y (inr i) = let h = map_among xs y i in (h.0, inr h.1, h.2)

module _ {X Y : Type 0} (f : X → List Y) where
  pub among_joined : (xs : List X) (x : X) (y : Y) → Among xs x → Among (f x) y → Among (flat_map f xs) y
  among_joined [] x y i j = absurd i
  among_joined (z ∷ xs) x y (inl e) j = among_left (f z) (flat_map f xs) y (subst (λ (w : X). Among (f w) y) e j)
  among_joined (z ∷ xs) x y (inr i) j = among_right (f z) (flat_map f xs) y (among_joined xs x y i j)

  pub joined_among : (xs : List X) (y : Y) → Among (flat_map f xs) y → (x : X) × Among xs x × Among (f x) y
  joined_among [] y i = absurd i
  joined_among (x ∷ xs) y i =
      elim (among_either (f x) (flat_map f xs) y i) [
        | inl j ↦ (x, inl refl, j)
        | inr j ↦ let h = joined_among xs y j in (h.0, inr h.1, h.2)
      ]

  pub joined_push : (xs : List X) (x : X) → flat_map f (xs ++ x ∷ []) ≡ flat_map f xs ++ f x
  joined_push [] x = append-nil (f x)
  joined_push (y ∷ xs) x = ap (λ (l : List Y). f y ++ l) (joined_push xs x) ∙ sym (append_assoc (f y) (flat_map f xs) (f x))

pub among_counting : (n a k : ℕ) → a ≤ k → k < a + n → Among (range_with_len a n) k
among_counting zero a k lo hi = absurd (omega arith)
among_counting (suc n) a k lo hi = elim (cases_eq k a) [ inl e ↦ inl e | inr e ↦ inr (among_counting n (a + 1) k (omega arith) (omega arith)) ]

pub counting_among : (n a k : ℕ) → Among (range_with_len a n) k → (a ≤ k) × (k < a + n)
counting_among zero a k i = absurd i
counting_among (suc n) a k (inl e) = (omega arith, omega arith)
counting_among (suc n) a k (inr i) = let h = counting_among n (a + 1) k i in (omega (arith, h.0), omega (arith, h.1))

pub counting_push : (n a : ℕ) → range_with_len a (suc n) ≡ range_with_len a n ++ (a + n) ∷ []
counting_push zero a = let e : a ≡ a + 0 = omega arith in ap (λ (k : ℕ). k ∷ []) e
counting_push (suc n) a =
    let e : a + 1 + n ≡ a + suc n = omega arith in
    ap (λ (l : List ℕ). a ∷ l) (counting_push n (a + 1) ∙ ap (λ (k : ℕ). range_with_len (a + 1) n ++ k ∷ []) e)

-- one number more that may pass a test
pub kept_push_from : (p : ℕ → Bool) (n a : ℕ) → filter p (range_with_len a (suc n)) ≡ filter p (range_with_len a n) ++ cond (p (a + n)) ((a + n) ∷ []) []
kept_push_from p n a = ap (filter p) (counting_push n a) ∙ filter-append p (range_with_len a n) ((a + n) ∷ [])

pub kept_push : (p : ℕ → Bool) (n : ℕ) → filter p (range_with_len 0 (suc n)) ≡ filter p (range_with_len 0 n) ++ cond (p n) (n ∷ []) []
kept_push p n = let e : 0 + n ≡ n = omega arith in kept_push_from p n 0 ∙ ap (λ (k : ℕ). filter p (range_with_len 0 n) ++ cond (p k) (k ∷ []) []) e

pub length_kept_push : (p : ℕ → Bool) (n : ℕ) → length (filter p (range_with_len 0 (suc n))) ≡ length (filter p (range_with_len 0 n)) + cond (p n) 1 0
length_kept_push p n =
    ap length (kept_push p n) ∙ length-append (filter p (range_with_len 0 n)) (cond (p n) (n ∷ []) []) ∙ ap (λ (k : ℕ). length (filter p (range_with_len 0 n)) + k) (one (p n))
  where
    one : (b : Bool) → length (cond b (n ∷ []) []) ≡ cond b 1 0
    one true = refl
    one false = refl

-- and one list more that is joined on
pub joined_counting_push : {Y : Type 0} (f : ℕ → List Y) (n : ℕ) → flat_map f (range_with_len 0 (suc n)) ≡ flat_map f (range_with_len 0 n) ++ f n
joined_counting_push f n =
    let e : 0 + n ≡ n = omega arith in
    ap (flat_map f) (counting_push n 0) ∙ joined_push f (range_with_len 0 n) (0 + n) ∙ ap (λ (k : ℕ). flat_map f (range_with_len 0 n) ++ f k) e
