-- What an entry means after a write, and what was read of one.
use Rattle.std.proofs.Common.{◌≡◌, ℕ, ◌+◌, ◌-◌, ◌<◌, ◌≤◌, ◌≢◌, List, ◌++◌, map, length, get_or, take, drop, set, slice_range, sym, ap, ◌∙◌, inl, inr, arith, get_or-set_other, get_or-set_same, below_more}
use lib.ListN.{length-map}
use lib.Seq.{map-set}
use borrow.Rule.Slice.PartMut.{put_mid}
use Rattle.std.proofs.lemmas.List.{get_or-map, map-append, get_or_append_left, get_or-append_right, take-map, get_or-take, get_or-drop, get_or_default, drop-map, length-take-le, length-drop, length-append}
use Rattle.std.proofs.lemmas.Bool.{cases_lt}
use Rattle.filters.specs.Side.{cell_at}
use Rattle.filters.specs.Line.{Beside}

pub at_same : {K C : Type 0} (f : K → C) (z : C) (xs : List K) (i : ℕ) (v : K) → i < length xs → cell_at f z (set xs i v) i ≡ f v
at_same f z xs i v h = let g : i < length (map f xs) = rw length-map h in rw map-set (get_or-set_same (map f xs) i (f v) z g)

pub at_other : {K C : Type 0} (f : K → C) (z : C) (xs : List K) (i : ℕ) (v : K) (k : ℕ) → k ≢ i → cell_at f z (set xs i v) k ≡ cell_at f z xs k
at_other f z xs i v k h = rw map-set (get_or-set_other (map f xs) i k (f v) z h)

pub at_read : {K C : Type 0} (f : K → C) (z : C) (xs : List K) (i : ℕ) (v : K) → i < length xs → v ≡ get_or xs i v → cell_at f z xs i ≡ f v
at_read f z xs i v h e = get_or-map f xs i v z h ∙ ap f (sym e)

-- a loop that writes v at i: what is said below i, and from i on
pub fill_more : {K C : Type 0} (f : K → C) (z : C) (xs : List K) (i : ℕ) (v : K) (Q : ℕ → C) → i < length xs → f v ≡ Q i → ((k : ℕ) → k < i → cell_at f z xs k ≡ Q k) → (k : ℕ) → k < i + 1 → cell_at f z (set xs i v) k ≡ Q k
fill_more f z xs i v Q h e below =
    below_more _ _ (λ k l. let ne : k ≢ i = omega arith in at_other f z xs i v k ne ∙ below k l) (at_same f z xs i v h ∙ e)

pub keep_more : {K C : Type 0} (f : K → C) (z : C) (xs : List K) (i w : ℕ) (v : K) (Q : ℕ → C) → ((k : ℕ) → i ≤ k → k < w → cell_at f z xs k ≡ Q k) → (k : ℕ) → i + 1 ≤ k → k < w → cell_at f z (set xs i v) k ≡ Q k
keep_more f z xs i w v Q above k l m =
    let ne : k ≢ i = omega arith in let le : i ≤ k = omega arith in at_other f z xs i v k ne ∙ above k le m

-- a loop that writes v at start + i
pub line_more : {K C : Type 0} (f : K → C) (z : C) (xs : List K) (start i : ℕ) (v : K) (Q : ℕ → C) → start + i < length xs → f v ≡ Q i → ((k : ℕ) → k < i → cell_at f z xs (start + k) ≡ Q k) → (k : ℕ) → k < i + 1 → cell_at f z (set xs (start + i) v) (start + k) ≡ Q k
line_more f z xs start i v Q h e below =
    below_more _ _ (λ k l. let ne : start + k ≢ start + i = omega arith in at_other f z xs (start + i) v (start + k) ne ∙ below k l) (at_same f z xs (start + i) v h ∙ e)

-- one entry more is written over ys
pub beside_more : {K C : Type 0} (f : K → C) (xs ys : List K) (start i : ℕ) (v : K) → Beside f ys xs start (start + i) → Beside f ys (set xs (start + i) v) start (start + (i + 1))
beside_more f xs ys start i v B = record {
  before = λ z k h. let ne : k ≢ start + i = omega arith in at_other f z xs (start + i) v k ne ∙ B.before z k h;
  after = λ z k h. let ne : k ≢ start + i = omega arith in let le : start + i ≤ k = omega arith in at_other f z xs (start + i) v k ne ∙ B.after z k le;
}

-- one list behind another
pub at_left : {K C : Type 0} (f : K → C) (z : C) (xs ys : List K) (i : ℕ) → i < length xs → cell_at f z (xs ++ ys) i ≡ cell_at f z xs i
at_left f z xs ys i h = let g : i < length (map f xs) = rw length-map h in ap (λ l. get_or l i z) (map-append f xs ys) ∙ get_or_append_left (map f xs) (map f ys) z i g

pub at_right : {K C : Type 0} (f : K → C) (z : C) (xs ys : List K) (n i : ℕ) → length xs ≡ n → cell_at f z (xs ++ ys) (n + i) ≡ cell_at f z ys i
at_right f z xs ys n i h =
    let g : length (map f xs) ≡ n = rw length-map h in
    let e : n + i - n ≡ i = omega arith in
    ap (λ l. get_or l (n + i) z) (map-append f xs ys) ∙ get_or-append_right (map f xs) (map f ys) n (n + i) z g (omega arith) ∙ ap (λ j. get_or (map f ys) j z) e

-- a part of a list
pub at_take : {K C : Type 0} (f : K → C) (z : C) (xs : List K) (n i : ℕ) → i < n → cell_at f z (take n xs) i ≡ cell_at f z xs i
at_take f z xs n i h = ap (λ l. get_or l i z) (sym (take-map f n xs)) ∙ get_or-take n (map f xs) i z h

pub at_drop : {K C : Type 0} (f : K → C) (z : C) (xs : List K) (n i : ℕ) → cell_at f z (drop n xs) i ≡ cell_at f z xs (n + i)
at_drop f z xs n i = ap (λ l. get_or l i z) (sym (drop-map f n xs)) ∙ get_or-drop n (map f xs) i z

-- a list in which k entries from a on were written over by ys
module _ {K C : Type 0} (f : K → C) (z : C) (a k : ℕ) (xs ys : List K) (m : a ≤ length xs) where
  front : length (take a xs) ≡ a
  front = length-take-le a xs m

  pub at_part : (i : ℕ) → i < length ys → cell_at f z (put_mid a k xs ys) (a + i) ≡ cell_at f z ys i
  at_part i h = at_right f z (take a xs) (ys ++ drop k (drop a xs)) a i front ∙ at_left f z ys (drop k (drop a xs)) i h

  pub before_part : (i : ℕ) → i < a → cell_at f z (put_mid a k xs ys) i ≡ cell_at f z xs i
  before_part i h = at_left f z (take a xs) (ys ++ drop k (drop a xs)) i (omega (arith, front)) ∙ at_take f z xs a i h

  pub after_part : (i : ℕ) → length ys ≡ k → a + k ≤ i → cell_at f z (put_mid a k xs ys) i ≡ cell_at f z xs i
  after_part i e h =
      let j : ℕ = i - (a + k) in
      let ei : i ≡ a + (k + j) = omega arith in
      ap (cell_at f z (put_mid a k xs ys)) ei
      ∙ at_right f z (take a xs) (ys ++ drop k (drop a xs)) a (k + j) front
      ∙ at_right f z ys (drop k (drop a xs)) k j e
      ∙ at_drop f z (drop a xs) k j
      ∙ at_drop f z xs a (k + j)
      ∙ ap (cell_at f z xs) (sym ei)

  pub length_part : length ys ≡ k → a + k ≤ length xs → length (put_mid a k xs ys) ≡ length xs
  length_part e h = let d = length-drop a xs in let l = length-drop k (drop a xs) in omega (arith, front, e, d, l, length-append (take a xs) (ys ++ drop k (drop a xs)), length-append ys (drop k (drop a xs)))

-- a list whose ends of 15 entries and whose middle were written over, one after the other
pub three_parts : {K C : Type 0} (f : K → C) (z : C) (xs west mid east : List K) (n k : ℕ) (Q : ℕ → C) → length xs ≡ n → 30 ≤ n →
    length west ≡ 15 → length mid ≡ n - 15 - 15 → length east ≡ 15 →
    ((i : ℕ) → i < 15 → cell_at f z west i ≡ Q i) →
    ((i : ℕ) → i < n - 15 - 15 → cell_at f z mid i ≡ Q (15 + i)) →
    ((i : ℕ) → i < 15 → cell_at f z east i ≡ Q (n - 15 + i)) →
    (i : ℕ) → i < n → cell_at f z (put_mid (n - 15) k (put_mid 15 (n - 15 - 15) (west ++ drop 15 xs) mid) east) i ≡ Q i
three_parts f z xs west mid east n k Q en long ew em ee w m e i h =
    let first = west ++ drop 15 xs in
    let l1 : length first ≡ n = omega (arith, length-append west (drop 15 xs), length-drop 15 xs, en, ew) in
    let f1 : 15 ≤ length first = omega (arith, l1) in
    let second = put_mid 15 (n - 15 - 15) first mid in
    let l2 : length second ≡ n = length_part f z 15 (n - 15 - 15) first mid f1 em (omega (arith, l1)) ∙ l1 in
    let f2 : n - 15 ≤ length second = omega (arith, l2) in
    elim (cases_lt i (n - 15)) [
      | inl b ↦ before_part f z (n - 15) k second east f2 i b ∙ elim (cases_lt i 15) [
        | inl a ↦ before_part f z 15 (n - 15 - 15) first mid f1 i a ∙ at_left f z west (drop 15 xs) i (omega (arith, ew)) ∙ w i a
        | inr a ↦
            let ei : i ≡ 15 + (i - 15) = omega arith in
            ap (cell_at f z second) ei ∙ at_part f z 15 (n - 15 - 15) first mid f1 (i - 15) (omega (arith, em)) ∙ m (i - 15) (omega arith) ∙ ap Q (sym ei)
      ]
      | inr b ↦
          let ei : i ≡ n - 15 + (i - (n - 15)) = omega arith in
          ap (cell_at f z (put_mid (n - 15) k second east)) ei ∙ at_part f z (n - 15) k second east f2 (i - (n - 15)) (omega (arith, ee)) ∙ e (i - (n - 15)) (omega arith) ∙ ap Q (sym ei)
    ]

-- all that was written lies in the part
pub beside_part : {K C : Type 0} (f : K → C) (a k : ℕ) (xs ys : List K) → a ≤ length xs → length ys ≡ k → Beside f xs (put_mid a k xs ys) a (a + k)
beside_part f a k xs ys m e = record { before = λ z. before_part f z a k xs ys m; after = λ z i h. after_part f z a k xs ys m i e h }

-- the w entries from a on; what stands for those past an end makes no difference within
pub at_range : {K C : Type 0} (f : K → C) (z z' : C) (xs : List K) (a w i : ℕ) → i < w → a + w ≤ length xs → cell_at f z (slice_range xs a (a + w)) i ≡ cell_at f z' xs (a + i)
at_range f z z' xs a w i h l =
    let e : a + w - a ≡ w = omega arith in
    let long : a + i < length (map f xs) = (rw length-map (omega arith)) in
    ap (λ (n : ℕ). cell_at f z (take n (drop a xs)) i) e ∙ at_take f z (drop a xs) w i h ∙ at_drop f z xs a i ∙ get_or_default (map f xs) (a + i) z z' long

pub length_range : {K : Type 0} (xs : List K) (a w : ℕ) → a + w ≤ length xs → length (slice_range xs a (a + w)) ≡ w
length_range xs a w h =
    let e : a + w - a ≡ w = omega arith in
    ap (λ (n : ℕ). length (take n (drop a xs))) e ∙ length-take-le w (drop a xs) (omega (arith, length-drop a xs))
