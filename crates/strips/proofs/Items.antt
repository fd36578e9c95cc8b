-- What a word says is said by that word alone.
use Rattle.std.proofs.Common.{◌≡◌, ℕ, ◌+◌, ◌*◌, ◌/◌, ◌%◌, ◌^◌, ◌<◌, Bool, true, false, cond, Option, Some, None, ◌⊎◌, inl, inr, refl, sym, ap, subst, ◌∙◌, arith, lit<}
use Rattle.std.specs.Prelude.{ok_or, ◌==◌, nat_lt}
use Rattle.std.specs.Option.{option_map}
use Rattle.std.proofs.lemmas.Bool.{eqb-true, ltb-true, lt-ltb}
use Rattle.std.proofs.lemmas.Option.{cond_some, same_Some}
use Rattle.morphology.specs.declared.call.Filter.{Filter}
use Rattle.morphology.specs.declared.call.Filter.TheVariants.{Erode, Dilate, Open, Close}
use Rattle.strips.specs.Kinds.{kind_number, kind_of, given, given_number}
use Rattle.strips.specs.declared.kind.CellKind.{CellKind}
use Rattle.strips.specs.declared.kind.CellKind.TheVariants.{Gray, Height, Flags, Return}
use Rattle.strips.specs.Items.{filter_number, filter_of, head_item, pair, corner_item, extent_item, point_item, end_item, item_by, item_of, item_word, Fits}
use Rattle.strips.specs.declared.item.Item.{Item}
use Rattle.strips.specs.declared.item.Item.TheVariants.{Head, Cells, Corner, Extent, Point, Call, End}

-- x is what the body b says in a word of the kind k
abbrev Says : ℕ → ℕ → Item → Type 0
Says k b (Head n w h) = (k ≡ 1) × (n ≡ given (b / 2 ^ 24)) × (w ≡ b / 2 ^ 12 % 2 ^ 12) × (h ≡ b % 2 ^ 12)
Says k b (Cells n) = (k ≡ 2) × (n ≡ b)
Says k b (Corner c r) = (k ≡ 3) × (b < 2 ^ 24) × (c ≡ b / 2 ^ 12) × (r ≡ b % 2 ^ 12)
Says k b (Extent w h) = (k ≡ 4) × (b < 2 ^ 24) × (w ≡ b / 2 ^ 12) × (h ≡ b % 2 ^ 12)
Says k b (Point p) = (k ≡ 5) × (b < 2 ^ 10) × (p.u ≡ b / 2 ^ 5) × (p.v ≡ b % 2 ^ 5)
Says k b (Call q) = (k ≡ 6) × (filter_number q ≡ b)
Says k b End = (k ≡ 7) × (b ≡ 0)

-- ---- from the word to what it says

-- which way a test went
pub chosen : {A : Type 0} (b : Bool) (x y z : A) → cond b x y ≡ z → ((b ≡ true) × (x ≡ z)) ⊎ ((b ≡ false) × (y ≡ z))
chosen true x y z e = inl (refl, e)
chosen false x y z e = inr (refl, e)

-- a test that let two numbers through, of which f makes an item
paired : (b : Bool) (f : ℕ → ℕ → Item) (p : ℕ × ℕ) (y : Item) → option_map (λ q. f q.0 q.1) (cond b (Some p) None) ≡ Some y → (b ≡ true) × (f p.0 p.1 ≡ y)
paired true f p y e = (refl, cc)
paired false f p y e = absurd cc

says_corner : (b : ℕ) (x : Item) → corner_item b ≡ Some x → Says 3 b x
says_corner b x e =
    let p = paired (nat_lt b (2 ^ 24)) Corner (b / 2 ^ 12, b % 2 ^ 12) x e in
    subst (Says 3 b) p.1 (refl, ltb-true b (2 ^ 24) p.0, refl, refl)

says_extent : (b : ℕ) (x : Item) → extent_item b ≡ Some x → Says 4 b x
says_extent b x e =
    let p = paired (nat_lt b (2 ^ 24)) Extent (b / 2 ^ 12, b % 2 ^ 12) x e in
    subst (Says 4 b) p.1 (refl, ltb-true b (2 ^ 24) p.0, refl, refl)

says_point : (b : ℕ) (x : Item) → point_item b ≡ Some x → Says 5 b x
says_point b x e =
    let p = cond_some (nat_lt b (2 ^ 10)) (Point (record { u = b / 2 ^ 5; v = b % 2 ^ 5 })) x e in
    subst (Says 5 b) p.1 (refl, ltb-true b (2 ^ 10) p.0, refl, refl)

says_end : (b : ℕ) (x : Item) → end_item b ≡ Some x → Says 7 b x
says_end b x e =
    let p = cond_some (b == 0) End x e in
    subst (Says 7 b) p.1 (refl, eqb-true b 0 p.0)

-- of four things that are numbered from 1, the one with a number has that number
numbered : {X : Type 0} (f : X → ℕ) (a b c d : X) → f a ≡ 1 → f b ≡ 2 → f c ≡ 3 → f d ≡ 4 → (n : ℕ) (x : X) →
    cond (n == 1) (Some a) (cond (n == 2) (Some b) (cond (n == 3) (Some c) (cond (n == 4) (Some d) None))) ≡ Some x → f x ≡ n
numbered f a b c d p q r s n x e =
    elim (chosen (n == 1) (Some a) (cond (n == 2) (Some b) (cond (n == 3) (Some c) (cond (n == 4) (Some d) None))) (Some x) e) [
      | inl h ↦ ap f (sym (same_Some a x h.1)) ∙ p ∙ sym (eqb-true n 1 h.0)
      | inr h ↦ elim (chosen (n == 2) (Some b) (cond (n == 3) (Some c) (cond (n == 4) (Some d) None)) (Some x) h.1) [
        | inl h ↦ ap f (sym (same_Some b x h.1)) ∙ q ∙ sym (eqb-true n 2 h.0)
        | inr h ↦ elim (chosen (n == 3) (Some c) (cond (n == 4) (Some d) None) (Some x) h.1) [
          | inl h ↦ ap f (sym (same_Some c x h.1)) ∙ r ∙ sym (eqb-true n 3 h.0)
          | inr h ↦ (let g = cond_some (n == 4) d x h.1 in ap f (sym g.1) ∙ s ∙ sym (eqb-true n 4 g.0))
        ]
      ]
    ]

-- the filter with a number has that number
number_of_filter : (b : ℕ) (q : Filter) → filter_of b ≡ Some q → filter_number q ≡ b
number_of_filter b q e = numbered filter_number Erode Dilate Open Close refl refl refl refl b q e

says_mapped : (b : ℕ) (o : Option Filter) (x : Item) → filter_of b ≡ o → option_map Call o ≡ Some x → Says 6 b x
says_mapped b (Some q) x h e = subst (Says 6 b) (same_Some (Call q) x e) (refl, number_of_filter b q h)
says_mapped b None x h e = absurd cc

says_call : (b : ℕ) (x : Item) → option_map Call (filter_of b) ≡ Some x → Says 6 b x
says_call b x e = says_mapped b (filter_of b) x refl e

-- at a number that was tested
at : (k n b : ℕ) (x : Item) → (k == n) ≡ true → Says n b x → Says k b x
at k n b x e s = subst (λ (j : ℕ). Says j b x) (sym (eqb-true k n e)) s

says_7 : (k b : ℕ) (x : Item) → cond (k == 7) (end_item b) None ≡ Some x → Says k b x
says_7 k b x e =
    elim (chosen (k == 7) (end_item b) None (Some x) e) [
      | inl p ↦ at k 7 b x p.0 (says_end b x p.1)
      | inr p ↦ absurd (let q = p.1 in cc)
    ]

says_6 : (k b : ℕ) (x : Item) → cond (k == 6) (option_map Call (filter_of b)) (cond (k == 7) (end_item b) None) ≡ Some x → Says k b x
says_6 k b x e =
    elim (chosen (k == 6) (option_map Call (filter_of b)) (cond (k == 7) (end_item b) None) (Some x) e) [
      | inl p ↦ at k 6 b x p.0 (says_call b x p.1)
      | inr p ↦ says_7 k b x p.1
    ]

-- the last four kinds
abbrev by_5 : ℕ → ℕ → Option Item
by_5 k b = cond (k == 5) (point_item b) (cond (k == 6) (option_map Call (filter_of b)) (cond (k == 7) (end_item b) None))

says_5 : (k b : ℕ) (x : Item) → by_5 k b ≡ Some x → Says k b x
says_5 k b x e =
    elim (chosen (k == 5) (point_item b) (cond (k == 6) (option_map Call (filter_of b)) (cond (k == 7) (end_item b) None)) (Some x) e) [
      | inl p ↦ at k 5 b x p.0 (says_point b x p.1)
      | inr p ↦ says_6 k b x p.1
    ]

abbrev by_3 : ℕ → ℕ → Option Item
by_3 k b = cond (k == 3) (corner_item b) (cond (k == 4) (extent_item b) (by_5 k b))

says_3 : (k b : ℕ) (x : Item) → by_3 k b ≡ Some x → Says k b x
says_3 k b x e =
    elim (chosen (k == 3) (corner_item b) (cond (k == 4) (extent_item b) (by_5 k b)) (Some x) e) [
      | inl p ↦ at k 3 b x p.0 (says_corner b x p.1)
      | inr p ↦ elim (chosen (k == 4) (extent_item b) (by_5 k b) (Some x) p.1) [
        | inl p ↦ at k 4 b x p.0 (says_extent b x p.1)
        | inr p ↦ says_5 k b x p.1
      ]
    ]

says : (k b : ℕ) (x : Item) → item_by k b ≡ Some x → Says k b x
says k b x e =
    elim (chosen (k == 1) (head_item b) (cond (k == 2) (Some (Cells b)) (by_3 k b)) (Some x) e) [
      | inl p ↦ at k 1 b x p.0 (subst (Says 1 b) (same_Some (Head (given (b / 2 ^ 24)) (b / 2 ^ 12 % 2 ^ 12) (b % 2 ^ 12)) x p.1) (refl, refl, refl, refl))
      | inr p ↦ elim (chosen (k == 2) (Some (Cells b)) (by_3 k b) (Some x) p.1) [
        | inl p ↦ at k 2 b x p.0 (subst (Says 2 b) (same_Some (Cells b) x p.1) (refl, refl))
        | inr p ↦ says_3 k b x p.1
      ]
    ]

pub filter_below : (q : Filter) → filter_number q < 5
filter_below Erode = lit< tt
filter_below Dilate = lit< tt
filter_below Open = lit< tt
filter_below Close = lit< tt

-- the kind with a number has that number
number_of_kind : (n : ℕ) (k : CellKind) → kind_of n ≡ Some k → kind_number k ≡ n
number_of_kind n k e = numbered kind_number Gray Height Flags Return refl refl refl refl n k e

by_kind : (n : ℕ) (o : Option CellKind) → kind_of n ≡ o → given_number (ok_or o (record { 0 = n })) ≡ n
by_kind n (Some k) e = number_of_kind n k e
by_kind n None e = refl

number_of_given : (n : ℕ) → given_number (given n) ≡ n
number_of_given n = by_kind n (kind_of n) refl

word_says : (w : ℕ) (x : Item) → Says (w / 2 ^ 28) (w % 2 ^ 28) x → (item_word x ≡ w) × Fits x
word_says w (Head k v h) s =
    let m : given_number k ≡ w % 2 ^ 28 / 2 ^ 24 = ap given_number s.1 ∙ number_of_given (w % 2 ^ 28 / 2 ^ 24) in
    (omega (arith, s.0, m, s.2, s.3), ((omega (arith, m), ap given m ∙ sym s.1), omega (arith, s.2), omega (arith, s.3)))
word_says w (Cells n) s = (omega (arith, s.0, s.1), omega (arith, s.1))
word_says w (Corner c r) s = (omega (arith, s.0, s.1, s.2, s.3), (omega (arith, s.1, s.2), omega (arith, s.3)))
word_says w (Extent v h) s = (omega (arith, s.0, s.1, s.2, s.3), (omega (arith, s.1, s.2), omega (arith, s.3)))
word_says w (Point p) s = (omega (arith, s.0, s.1, s.2, s.3), (omega (arith, s.1, s.2), omega (arith, s.3)))
word_says w (Call q) s = (omega (arith, s.0, s.1), tt)
word_says w End s = (omega (arith, s.0, s.1), tt)

-- a word that says something is the word that says it
pub item_takes : (w : ℕ) (x : Item) → item_of w ≡ Some x → (item_word x ≡ w) × Fits x
unfolding item_of
item_takes w x e = word_says w x (says (w / 2 ^ 28) (w % 2 ^ 28) x e)

-- ---- from what is said to the word

by_parts : (w k b : ℕ) → w ≡ k * 2 ^ 28 + b → b < 2 ^ 28 → item_of w ≡ item_by k b
unfolding item_of
by_parts w k b e lt =
    let upper : w / 2 ^ 28 ≡ k = omega arith in
    let lower : w % 2 ^ 28 ≡ b = omega arith in
    rw (upper, lower) refl

filter_again : (q : Filter) → filter_of (filter_number q) ≡ Some q
filter_again Erode = refl
filter_again Dilate = refl
filter_again Open = refl
filter_again Close = refl

-- a pair of numbers of twelve bits
pair_again : (c r : ℕ) → c < 2 ^ 12 → r < 2 ^ 12 → pair (c * 2 ^ 12 + r) ≡ Some (c, r)
pair_again c r hc hr =
    let t = lt-ltb (c * 2 ^ 12 + r) (2 ^ 24) (omega arith) in
    let upper : (c * 2 ^ 12 + r) / 2 ^ 12 ≡ c = omega arith in
    let lower : (c * 2 ^ 12 + r) % 2 ^ 12 ≡ r = omega arith in
    rw (t, upper, lower) refl

-- the word that says something says it
pub item_again : (x : Item) → Fits x → item_of (item_word x) ≡ Some x
item_again (Head k w h) fits =
    let b = given_number k * 2 ^ 24 + w * 2 ^ 12 + h in
    let f0 = fits.0.0 in
    let f1 = fits.1 in
    let f2 = fits.2 in
    let top : b / 2 ^ 24 ≡ given_number k = omega arith in
    let middle : b / 2 ^ 12 % 2 ^ 12 ≡ w = omega arith in
    let low : b % 2 ^ 12 ≡ h = omega arith in
    by_parts (item_word (Head k w h)) 1 b (omega arith) (omega arith) ∙ rw (top, fits.0.1, middle, low) refl
item_again (Cells n) fits = by_parts (item_word (Cells n)) 2 n refl fits
item_again (Corner c r) fits = by_parts (item_word (Corner c r)) 3 (c * 2 ^ 12 + r) (omega arith) (omega (arith, fits.0, fits.1)) ∙ ap (option_map (λ p. Corner p.0 p.1)) (pair_again c r fits.0 fits.1)
item_again (Extent w h) fits = by_parts (item_word (Extent w h)) 4 (w * 2 ^ 12 + h) (omega arith) (omega (arith, fits.0, fits.1)) ∙ ap (option_map (λ p. Extent p.0 p.1)) (pair_again w h fits.0 fits.1)
item_again (Point p) fits =
    let b = p.u * 2 ^ 5 + p.v in
    let f0 = fits.0 in
    let f1 = fits.1 in
    let t = lt-ltb b (2 ^ 10) (omega arith) in
    let upper : b / 2 ^ 5 ≡ p.u = omega arith in
    let lower : b % 2 ^ 5 ≡ p.v = omega arith in
    by_parts (item_word (Point p)) 5 b (omega arith) (omega arith) ∙ rw (t, upper, lower) refl
item_again (Call q) fits = by_parts (item_word (Call q)) 6 (filter_number q) refl (omega (arith, filter_below q)) ∙ ap (option_map Call) (filter_again q)
item_again End fits = by_parts (item_word End) 7 0 refl (lit< tt) ∙ refl
