-- Rows, cell by cell and line by line.
use Rattle.std.proofs.Common.{◌≡◌, ℕ, ◌+◌, List, [], ◌∷◌, ◌++◌, map, Option, Some, None, refl, sym, ap, ◌∙◌, zero-add, append_assoc}
use Rattle.std.specs.List.{range_with_len, flat_map, filter_map, cons_option}
use Rattle.std.proofs.lemmas.List.Concat.{flat_map-cons}
use Rattle.std.proofs.lemmas.List.FromFn.{map-range_with_len_more}
use Rattle.jobs.specs.Listings.{word_at}

taken : {C : Type 0} (word : C → ℕ) (o : Option C) (cs : List C) → map word (cons_option o cs) ≡ word_at word o ++ map word cs
taken word None cs = refl
taken word (Some c) cs = refl

-- the words of the places that have a cell, place by place
pub row_words : {C : Type 0} (word : C → ℕ) (cell : ℕ → Option C) (xs : List ℕ) → map word (filter_map cell xs) ≡ flat_map (λ x. word_at word (cell x)) xs
row_words word cell [] = refl
row_words word cell (x ∷ xs) =
    let f : ℕ → List ℕ = λ y. word_at word (cell y) in
    taken word (cell x) (filter_map cell xs)
    ∙ ap (λ (ws : List ℕ). f x ++ ws) (row_words word cell xs)
    ∙ sym (flat_map-cons f x xs)

-- one row more
pub rows_more : {L : Type 0} (f : ℕ → L) (before done ls : List L) (n : ℕ) (x : L) → done ≡ before ++ map f (range_with_len 0 n) → ls ≡ done ++ x ∷ [] → x ≡ f n → ls ≡ before ++ map f (range_with_len 0 (n + 1))
rows_more {L} f before done ls n x e l h =
    l ∙ ap (λ (xs : List L). xs ++ x ∷ []) e ∙ append_assoc before (map f (range_with_len 0 n)) (x ∷ []) ∙ ap (λ (y : L). before ++ (map f (range_with_len 0 n) ++ y ∷ [])) h
    ∙ ap (λ (xs : List L). before ++ xs) (sym (map-range_with_len_more f 0 n n (zero-add n)))
