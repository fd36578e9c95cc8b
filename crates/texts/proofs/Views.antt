-- The lines of a view, cut where its texts are.
use Rattle.std.proofs.Common.{◌≡◌, ℕ, zero, suc, ◌+◌, ◌-◌, ◌<◌, List, [], ◌∷◌, min, map, length, take, drop, get_or, refl, sym, ap, ◌∙◌, arith, String, string_bytes}
use Rattle.std.proofs.lemmas.List.{length-map, length-drop, take_all, drop_more, drop-map, take-map, take_min, drop_min}
use Rattle.std.specs.declared.alloc.Global.{Global}
use Rattle.texts.specs.Lines.{numbered_from}
use Rattle.texts.specs.Views.{before_in}

numbered_long : (n : ℕ) (ts : List (List ℕ)) → length (numbered_from n ts) ≡ length ts
numbered_long n [] = refl
numbered_long n (t ∷ ts) = ap suc (numbered_long (n + 1) ts)

numbered_drop : (n : ℕ) (ts : List (List ℕ)) (i : ℕ) → drop i (numbered_from n ts) ≡ numbered_from (n + i) (drop i ts)
numbered_drop n ts zero = let same : n ≡ n + 0 = omega arith in ap (λ m. numbered_from m ts) same
numbered_drop n [] (suc i) = refl
numbered_drop n (t ∷ ts) (suc i) =
    let same : (n + 1) + i ≡ n + suc i = omega arith in
    numbered_drop (n + 1) ts i ∙ ap (λ m. numbered_from m (drop i ts)) same

numbered_take : (n : ℕ) (ts : List (List ℕ)) (i : ℕ) → take i (numbered_from n ts) ≡ numbered_from n (take i ts)
numbered_take n ts zero = refl
numbered_take n [] (suc i) = refl
numbered_take n (t ∷ ts) (suc i) = ap (λ ls. (n, t) ∷ ls) (numbered_take (n + 1) ts i)

module _ (n : ℕ) (ts : List (String Global)) where
  abbrev rows : List (ℕ × List ℕ)
  rows = numbered_from n (map string_bytes ts)

  pub shown_long : length rows ≡ length ts
  shown_long = numbered_long n (map string_bytes ts) ∙ length-map ts string_bytes

  -- line i, and those behind it
  pub shown_drop : (i : ℕ) (d : String Global) → i < length ts →
      drop i rows ≡ (n + i, string_bytes (get_or ts i d)) ∷ numbered_from (n + i + 1) (map string_bytes (drop (i + 1) ts))
  shown_drop i d inside =
      numbered_drop n (map string_bytes ts) i
      ∙ ap (numbered_from (n + i)) (drop-map string_bytes i ts)
      ∙ ap (λ ss. numbered_from (n + i) (map string_bytes ss)) (drop_more ts i d inside)

  pub shown_at : (i : ℕ) (d : String Global) → i < length ts →
      drop i rows ≡ (n + i, string_bytes (get_or ts i d)) ∷ drop (i + 1) rows
  shown_at i d inside =
      let same : n + i + 1 ≡ n + (i + 1) = omega arith in
      let behind : numbered_from (n + i + 1) (map string_bytes (drop (i + 1) ts)) ≡ drop (i + 1) rows =
      ap (λ m. numbered_from m (map string_bytes (drop (i + 1) ts))) same
      ∙ ap (numbered_from (n + (i + 1))) (sym (drop-map string_bytes (i + 1) ts))
      ∙ sym (numbered_drop n (map string_bytes ts) (i + 1)) in
      shown_drop i d inside ∙ ap (λ ls. (n + i, string_bytes (get_or ts i d)) ∷ ls) behind

  pub shown_take : (i : ℕ) → take i rows ≡ numbered_from n (map string_bytes (take i ts))
  shown_take i = numbered_take n (map string_bytes ts) i ∙ ap (numbered_from n) (take-map string_bytes i ts)

  -- the slice of the texts from place i on
  shown_rest : (i : ℕ) → numbered_from (n + i) (map string_bytes (take (length ts - i) (drop i ts))) ≡ drop i rows
  shown_rest i =
      let all : take (length ts - i) (drop i ts) ≡ drop i ts =
      take_all (length ts - i) (drop i ts) (let m = length-drop i ts in omega (arith, m)) in
      ap (λ ss. numbered_from (n + i) (map string_bytes ss)) all
      ∙ ap (numbered_from (n + i)) (sym (drop-map string_bytes i ts))
      ∙ sym (numbered_drop n (map string_bytes ts) i)

  pub shown_front : (i k : ℕ) → k ≡ min i (length ts) → numbered_from n (map string_bytes (take k ts)) ≡ take i rows
  shown_front i k is =
      let same : take k ts ≡ take i ts = ap (λ j. take j ts) is ∙ take_min i ts in
      ap (λ ss. numbered_from n (map string_bytes ss)) same ∙ sym (shown_take i)

  pub shown_behind : (i k : ℕ) → k ≡ min i (length ts) → numbered_from (n + k) (map string_bytes (take (length ts - k) (drop k ts))) ≡ drop i rows
  shown_behind i k is =
      let long : k ≡ min i (length rows) = is ∙ ap (min i) (sym shown_long) in
      shown_rest k ∙ ap (λ j. drop j rows) long ∙ drop_min i rows

pub shown_before : (n : ℕ) (ts : List (String Global)) → 0 < length ts → n - 1 ≡ before_in (numbered_from n (map string_bytes ts))
shown_before n [] some = absurd (omega (arith, some))
shown_before n (t ∷ ts) some = refl
