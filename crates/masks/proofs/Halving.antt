-- The rule of the length list, from 31 down.
use Rattle.std.proofs.Common.{◌≡◌, ℕ, zero, suc, ◌+◌, ◌-◌, ◌/◌, ◌<◌, ◌≤◌, Bool, true, false, cond, not, ◌&&◌, ◌||◌, leb, ◌≢◌, List, [], ◌∷◌, ◌++◌, reverse, length, get_or, take, drop, set, replicate, fold, filter, sym, refl, ap, ◌∙◌, subst, ap₂, inl, inr, add-one, arith}
use Rattle.std.specs.List.{range_with_len, list_any, enumerate_from, AllByRecursion}
use Rattle.std.proofs.lemmas.Grind.{get_or_after_one}
use Rattle.std.proofs.lemmas.List.{length-set, length-take, length-take-le, get_or-take, get_or-set_same, get_or-set_other, reverse-append}
use Rattle.std.proofs.ByRecursion.{All-weaker}
use Rattle.std.proofs.lemmas.List.Sums.{fold_push, fold_more}
use Rattle.std.proofs.lemmas.Bool.{cases_Bool, cases_eq, cases_lt, both_ways, and_parts, or_cases, leb-true, cond-true, cond-false}
use Rattle.std.proofs.lemmas.Bool.Decides.{nat_tests}
use Rattle.masks.specs.Points.{Among}
use Rattle.masks.specs.Lengths.{listed, ticked, reached, halved_at, halved, rising, lengths, Climbs, Serves}
use Rattle.masks.specs.declared.chord.Chord.{Chord}
use Rattle.masks.proofs.Lists.{all_among, among_all, among_kept, kept_among, among_counting, counting_among, kept_push_from}

-- the rule for the numbers from 31 down to a
abbrev pub halved_down : List Bool → ℕ → List Bool
halved_down s a = fold halved_at s (reverse (range_with_len a (32 - a)))

down_more : (a : ℕ) → a < 32 → reverse (range_with_len a (32 - a)) ≡ reverse (range_with_len (a + 1) (32 - (a + 1))) ++ a ∷ []
down_more a h =
    let e : 32 - a ≡ suc (32 - (a + 1)) = omega arith in
    ap (λ (n : ℕ). reverse (range_with_len a n)) e ∙ reverse-append (a ∷ []) (range_with_len (a + 1) (32 - (a + 1)))

pub halved_down_more : (s : List Bool) (a : ℕ) → a < 32 → halved_down s a ≡ halved_at (halved_down s (a + 1)) a
halved_down_more s a h = ap (fold halved_at s) (down_more a h) ∙ fold_push halved_at s (reverse (range_with_len (a + 1) (32 - (a + 1)))) a

pub halved_down_all : (s : List Bool) → halved_down s 2 ≡ halved s
unfolding halved
halved_down_all s = refl

-- entries with their numbers, one of which passes, are the numbers that pass by their entries
any_numbered : (s : List Bool) (a : ℕ) (xs : List Bool) (k : ℕ) → ((i : ℕ) → i < length xs → listed s (k + i) ≡ get_or xs i false) →
    list_any (λ (p : ℕ × Bool). p.1 && leb a (p.0 + p.0)) (enumerate_from k xs) ≡ list_any (λ b. listed s b && leb a (b + b)) (range_with_len k (length xs))
any_numbered s a [] k h = refl
any_numbered s a (x ∷ xs) k h =
    let z : k ≡ k + 0 = omega arith in
    ap₂ (λ (t u : Bool). t || u)
    (ap (λ (t : Bool). t && leb a (k + k)) (sym (ap (listed s) z ∙ h 0 (omega arith))))
    (any_numbered s a xs (k + 1) (λ i l. let e : k + 1 + i ≡ k + suc i = omega arith in ap (listed s) e ∙ h (suc i) (omega arith)))

pub reached_numbered : (s : List Bool) (a : ℕ) → a ≤ length s → list_any (λ (p : ℕ × Bool). p.1 && leb a (p.0 + p.0)) (enumerate_from 0 (take a s)) ≡ reached s a a
reached_numbered s a h =
    let long : length (take a s) ≡ a = length-take-le a s h in
    any_numbered s a (take a s) 0 (λ i l. let e : 0 + i ≡ i = omega arith in ap (listed s) e ∙ sym (get_or-take a s i false (omega (arith, long))))
    ∙ ap (λ (n : ℕ). list_any (λ b. listed s b && leb a (b + b)) (range_with_len 0 n)) long

-- b is listed, lies below a and reaches a when doubled
abbrev Near : List Bool → ℕ → ℕ → Type 0
Near s a b = (b < a) × (a ≤ b + b) × (listed s b ≡ true)

-- each listed number from `low` on, but 1, has one that comes near it
abbrev Closed : List Bool → ℕ → Type 0
Closed s low = (a : ℕ) → low ≤ a → a < 32 → listed s a ≡ true → (b : ℕ) × Near s a b

-- one of n numbers that follow each other passes
any_counting : (p : ℕ → Bool) (n a : ℕ) → list_any p (range_with_len a n) ≡ true → (b : ℕ) × (b < a + n) × (p b ≡ true)
any_counting p zero a e = absurd (both_ways false refl e)
any_counting p (suc n) a e =
    elim (or_cases (p a) (list_any p (range_with_len (a + 1) n)) e) [
      | inl y ↦ (a, omega arith, y)
      | inr y ↦ let r = any_counting p n (a + 1) y in (r.0, omega (arith, r.1), r.2)
    ]

-- what a true answer says
reached_near : (s : List Bool) (a : ℕ) → reached s a a ≡ true → (b : ℕ) × Near s a b
reached_near s a e =
    let r = any_counting (λ b. listed s b && leb a (b + b)) a 0 e in
    let p = and_parts (listed s r.0) (leb a (r.0 + r.0)) r.2 in
    (r.0, (omega (arith, r.1), leb-true a (r.0 + r.0) p.1, p.0))

listed_set : (s : List Bool) (h x : ℕ) → h < length s → listed s x ≡ true → listed (set s h true) x ≡ true
listed_set s h x l e =
    elim (cases_eq x h) [
      | inl a ↦ ap (listed (set s h true)) a ∙ get_or-set_same s h true false l
      | inr b ↦ get_or-set_other s h x true false b ∙ e
    ]

set_listed : (s : List Bool) (h x : ℕ) → x ≢ h → listed (set s h true) x ≡ true → listed s x ≡ true
set_listed s h x n e = sym (get_or-set_other s h x true false n) ∙ e

-- one application of the rule: half of a joins, or nothing changes
pub at_joins : (s : List Bool) (a : ℕ) → (listed s a && not (reached s a a)) ≡ true → halved_at s a ≡ set s ((a + 1) / 2) true
at_joins s a e = cond-true (listed s a && not (reached s a a)) (set s ((a + 1) / 2) true) s e

pub at_stays : (s : List Bool) (a : ℕ) → (listed s a && not (reached s a a)) ≡ false → halved_at s a ≡ s
at_stays s a e = cond-false (listed s a && not (reached s a a)) (set s ((a + 1) / 2) true) s e

module _ (s : List Bool) (a : ℕ) (long : length s ≡ 32) (lo : 2 ≤ a) (hi : a < 32) where
  at_keeps : (x : ℕ) → listed s x ≡ true → listed (halved_at s a) x ≡ true
  at_keeps x e =
      elim (cases_Bool (listed s a && not (reached s a a))) [
        | inl y ↦ ap (λ (t : List Bool). listed t x) (at_joins s a y) ∙ listed_set s ((a + 1) / 2) x (omega arith) e
        | inr n ↦ ap (λ (t : List Bool). listed t x) (at_stays s a n) ∙ e
      ]

  at_length : length (halved_at s a) ≡ 32
  at_length =
      elim (cases_Bool (listed s a && not (reached s a a))) [
        | inl y ↦ ap length (at_joins s a y) ∙ length-set s ((a + 1) / 2) true ∙ long
        | inr n ↦ ap length (at_stays s a n) ∙ long
      ]

  joined_closed : Closed s (a + 1) → Closed (set s ((a + 1) / 2) true) a
  joined_closed C x l h e =
      let half : ℕ = (a + 1) / 2 in
      let room : half < length s = omega arith in
      elim (cases_eq x a) [
        | inl q ↦ (half, (omega arith, omega arith, get_or-set_same s half true false room))
        | inr q ↦
            let apart : x ≢ half = omega arith in
            let n = C x (omega arith) h (set_listed s half x apart e) in
            (n.0, (n.1.0, n.1.1, listed_set s half n.0 room n.1.2))
      ]

  stays_closed : (listed s a && not (reached s a a)) ≡ false → Closed s (a + 1) → Closed s a
  stays_closed f C x l h e =
      elim (cases_eq x a) [
        | inl q ↦
            let la : listed s a ≡ true = ap (listed s) (sym q) ∙ e in
            let r : reached s a a ≡ true = grind (arith, nat_tests) in
            subst (λ (y : ℕ). (b : ℕ) × Near s y b) (sym q) (reached_near s a r)
        | inr q ↦ C x (omega arith) h e
      ]

  at_closed : Closed s (a + 1) → Closed (halved_at s a) a
  at_closed C =
      elim (cases_Bool (listed s a && not (reached s a a))) [
        | inl y ↦ subst (λ (t : List Bool). Closed t a) (sym (at_joins s a y)) (joined_closed C)
        | inr n ↦ subst (λ (t : List Bool). Closed t a) (sym (at_stays s a n)) (stays_closed n C)
      ]

-- after the rule for the numbers from 31 down to a
record Sofar (s t : List Bool) (a : ℕ) : Type 0 where
  long : length t ≡ 32
  closed : Closed t a
  keeps : (x : ℕ) → listed s x ≡ true → listed t x ≡ true

sofar : (s : List Bool) → length s ≡ 32 → (n a : ℕ) → a + n ≡ 32 → 2 ≤ a → Sofar s (halved_down s a) a
sofar s long zero a e l =
    let z : 32 - a ≡ 0 = omega arith in
    subst (λ (t : List Bool). Sofar s t a) (sym (ap (λ (k : ℕ). fold halved_at s (reverse (range_with_len a k))) z))
    (record { long = long; closed = λ x h g. absurd (omega arith); keeps = λ x h. h })
sofar s long (suc n) a e l =
    let t = halved_down s (a + 1) in
    let S = sofar s long n (a + 1) (omega arith) (omega arith) in
    let hi : a < 32 = omega arith in
    subst (λ (u : List Bool). Sofar s u a) (sym (halved_down_more s a hi)) (record {
      long = at_length t a S.long l hi;
      closed = at_closed t a S.long l hi S.closed;
      keeps = λ x h. at_keeps t a S.long l hi x (S.keeps x h);
    })

halved_sofar : (s : List Bool) → length s ≡ 32 → Sofar s (halved s) 2
halved_sofar s long = subst (λ (t : List Bool). Sofar s t 2) (halved_down_all s) (sofar s long 30 2 refl (omega arith))

-- 1 is listed where anything is
one_listed : (s : List Bool) → Closed s 2 → (fuel x : ℕ) → x ≤ fuel → 1 ≤ x → x < 32 → listed s x ≡ true → listed s 1 ≡ true
one_listed s C zero x f l h e = absurd (omega arith)
one_listed s C (suc fuel) x f l h e =
    elim (cases_eq x 1) [
      | inl q ↦ ap (listed s) (sym q) ∙ e
      | inr q ↦
          let n = C x (omega arith) h e in
          let nearer = n.1.0 in
          let doubled = n.1.1 in
          one_listed s C fuel n.0 (omega arith) (omega arith) (omega arith) n.1.2
    ]

-- what is kept from a on climbs from the last number that was kept before
climbs_from : (s : List Bool) → Closed s 2 → (n a last : ℕ) → a + n ≤ 32 → 2 ≤ a → last < a → ((b : ℕ) → last < b → b < a → listed s b ≡ false) →
    Climbs last (filter (listed s) (range_with_len a n))
climbs_from s C zero a last top l h gap = tt
climbs_from s C (suc n) a last top l h gap =
    elim (cases_Bool (listed s a)) [
      | inl e ↦
          let near = C a l (omega arith) e in
          let b = near.0 in
          let below = near.1.0 in
          let doubled = near.1.1 in
          let at_most : b ≤ last = elim (cases_lt last b) [ inl g ↦ absurd (both_ways (listed s b) (gap b g below) near.1.2) | inr g ↦ g ] in
          let rest = climbs_from s C n (a + 1) a (omega arith) (omega arith) (omega arith) (λ x g k. absurd (omega arith)) in
          subst (λ (t : Bool). Climbs last (cond t (a ∷ filter (listed s) (range_with_len (a + 1) n)) (filter (listed s) (range_with_len (a + 1) n)))) (sym e) (h, omega arith, rest)
      | inr e ↦
          let wider : (b : ℕ) → last < b → b < a + 1 → listed s b ≡ false =
          λ b g k. elim (cases_eq b a) [ inl q ↦ ap (listed s) q ∙ e | inr q ↦ gap b g (omega arith) ] in
          let rest = climbs_from s C n (a + 1) last (omega arith) (omega arith) (omega arith) wider in
          subst (λ (t : Bool). Climbs last (cond t (a ∷ filter (listed s) (range_with_len (a + 1) n)) (filter (listed s) (range_with_len (a + 1) n)))) (sym e) rest
    ]

rising_first : (s : List Bool) (n : ℕ) → listed s 1 ≡ true → rising s (suc n) ≡ 1 ∷ filter (listed s) (range_with_len 2 n)
unfolding rising
rising_first s n e = ap (λ (t : Bool). cond t (1 ∷ filter (listed s) (range_with_len 2 n)) (filter (listed s) (range_with_len 2 n))) e

rising_has : (s : List Bool) (n x : ℕ) → 1 ≤ x → x < 1 + n → listed s x ≡ true → Among (rising s n) x
unfolding rising
rising_has s n x l h e = among_kept (listed s) (range_with_len 1 n) x (among_counting n 1 x l h) e

-- the lengths of chords, ticked one after the other
abbrev tick : List Bool → Chord → List Bool
tick s c = set s c.length true

ticks_length : (cs : List Chord) (s : List Bool) → length (fold tick s cs) ≡ length s
ticks_length [] s = refl
ticks_length (c ∷ cs) s = ticks_length cs (tick s c) ∙ length-set s c.length true

ticks_keep : (cs : List Chord) (s : List Bool) (x : ℕ) → length s ≡ 32 → AllByRecursion (λ c. c.length < 32) cs → listed s x ≡ true → listed (fold tick s cs) x ≡ true
ticks_keep [] s x n a e = e
ticks_keep (c ∷ cs) s x n a e =
    let here = a.0 in
    ticks_keep cs (tick s c) x (length-set s c.length true ∙ n) a.1 (listed_set s c.length x (omega arith) e)

ticks_have : (cs : List Chord) (s : List Bool) (ch : Chord) → length s ≡ 32 → AllByRecursion (λ c. c.length < 32) cs → Among cs ch → listed (fold tick s cs) ch.length ≡ true
ticks_have [] s ch n a i = absurd i
ticks_have (c ∷ cs) s ch n a (inl e) =
    let here = a.0 in
    let room : c.length < length s = omega arith in
    ticks_keep cs (tick s c) ch.length (length-set s c.length true ∙ n) a.1
    (ap (λ (d : Chord). listed (tick s c) d.length) e ∙ get_or-set_same s c.length true false room)
ticks_have (c ∷ cs) s ch n a (inr i) = ticks_have cs (tick s c) ch (length-set s c.length true ∙ n) a.1 i

ticked_length : (cs : List Chord) → length (ticked cs) ≡ 32
unfolding ticked
ticked_length cs = ticks_length cs (replicate 32 false)

ticked_has : (cs : List Chord) (ch : Chord) → AllByRecursion (λ c. c.length < 32) cs → Among cs ch → listed (ticked cs) ch.length ≡ true
unfolding ticked
ticked_has cs ch a i = ticks_have cs (replicate 32 false) ch refl a i

pub ticked_none : ticked [] ≡ replicate 32 false
unfolding ticked
ticked_none = refl

pub ticked_more : (cs : List Chord) (i : ℕ) (d : Chord) → i < length cs → ticked (take (i + 1) cs) ≡ set (ticked (take i cs)) (get_or cs i d).length true
unfolding ticked
ticked_more cs i d h = fold_more tick (replicate 32 false) cs i d h

pub rising_none : (s : List Bool) → rising s 0 ≡ []
unfolding rising
rising_none s = refl

pub rising_more : (s : List Bool) (i : ℕ) → rising s (i + 1) ≡ rising s i ++ cond (listed s (i + 1)) ((i + 1) ∷ []) []
unfolding rising
rising_more s i =
    let e : 1 + i ≡ i + 1 = omega arith in
    ap (λ (n : ℕ). filter (listed s) (range_with_len 1 n)) (add-one i)
    ∙ kept_push_from (listed s) i 1
    ∙ ap (λ (k : ℕ). filter (listed s) (range_with_len 1 i) ++ cond (listed s k) (k ∷ []) []) e

-- the numbers from 1 on
pub listed_after : (s : List Bool) (i : ℕ) → i < length (take 31 (drop 1 s)) → get_or (take 31 (drop 1 s)) i false ≡ listed s (i + 1)
listed_after s i h =
    let e : 1 + i ≡ i + 1 = omega arith in
    let few = length-take 31 (drop 1 s) in
    get_or-take 31 (drop 1 s) i false (omega arith) ∙ get_or_after_one s i false ∙ ap (listed s) e

pub lengths_serve : (cs : List Chord) (ch : Chord) → Among cs ch → AllByRecursion (λ c. (1 ≤ c.length) × (c.length < 32)) cs → Serves cs (lengths cs)
unfolding lengths
lengths_serve cs ch i a =
    let short = All-weaker (λ c. (1 ≤ c.length) × (c.length < 32)) (λ c. c.length < 32) (λ c p. p.1) cs a in
    let s = halved (ticked cs) in
    let S = halved_sofar (ticked cs) (ticked_length cs) in
    let has : (c : Chord) → Among cs c → listed s c.length ≡ true = λ c j. S.keeps c.length (ticked_has cs c short j) in
    let size : (c : Chord) → Among cs c → (1 ≤ c.length) × (c.length < 32) = λ c j. among_all (λ d. (1 ≤ d.length) × (d.length < 32)) cs c a j in
    let one = one_listed s S.closed 31 ch.length (omega (arith, (size ch i).1)) (size ch i).0 (size ch i).1 (has ch i) in
    record {
      more = filter (listed s) (range_with_len 2 30);
      from_one = rising_first s 30 one;
      climbs = climbs_from s S.closed 30 2 1 (omega arith) (omega arith) (omega arith) (λ b g k. absurd (omega arith));
      each = λ c j. rising_has s 31 c.length (size c j).0 (size c j).1 (has c j);
    }

pub rising_short : (s : List Bool) (n : ℕ) → AllByRecursion (λ a. a < 1 + n) (rising s n)
unfolding rising
rising_short s n = all_among (λ a. a < 1 + n) (filter (listed s) (range_with_len 1 n)) (λ a i. (counting_among n 1 a (kept_among (listed s) (range_with_len 1 n) a i).0).1)

-- no length is above 31
pub lengths_short : (cs : List Chord) → AllByRecursion (λ a. a < 32) (lengths cs)
unfolding lengths
lengths_short cs = rising_short (halved (ticked cs)) 31
