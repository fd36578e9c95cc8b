-- What is noted in a list, one place after the other.
use Rattle.std.proofs.Common.{◌≡◌, ℕ, suc, ◌+◌, ◌≤◌, List, [], ◌∷◌, ◌++◌, length, set, sym, refl, ap, ◌∙◌, arith}
use Rattle.std.proofs.Math.Seq.{set-append_seam}
use Rattle.std.proofs.lemmas.List.{append_assoc, length-append, set_past}
use Rattle.morphology.specs.declared.place.Place.{Place}
use Rattle.filters.specs.Find.{note, listed}

pub note_append : (n : ℕ) (ps qs xs : List Place) → note n (ps ++ qs) xs ≡ note (n + length ps) qs (note n ps xs)
note_append n [] qs xs = ap (λ (i : ℕ). note i qs xs) (omega arith)
note_append n (p ∷ ps) qs xs =
    note_append (suc n) ps qs (set xs n p)
    ∙ ap (λ (i : ℕ). note i qs (note (suc n) ps (set xs n p))) (omega arith)

-- from the front on
pub note_more : (ps qs xs : List Place) → note 0 (ps ++ qs) xs ≡ note (length ps) qs (note 0 ps xs)
note_more ps qs xs = note_append 0 ps qs xs ∙ ap (λ (i : ℕ). note i qs (note 0 ps xs)) (omega arith)

note_past : (n : ℕ) (qs xs : List Place) → length xs ≤ n → note n qs xs ≡ xs
note_past n [] xs h = refl
note_past n (q ∷ qs) xs h =
    ap (note (suc n) qs) (set_past xs n q h) ∙ note_past (suc n) qs xs (omega arith)

listed_none : (xs : List Place) → xs ≡ listed [] xs
listed_none [] = refl
listed_none (x ∷ xs) = refl

-- behind the list `front`
note_behind : (qs front xs : List Place) → note (length front) qs (front ++ xs) ≡ front ++ listed qs xs
note_behind [] front xs = ap (λ (l : List Place). front ++ l) (listed_none xs)
note_behind (q ∷ qs) front [] =
    note_past (length front) (q ∷ qs) (front ++ []) (let e = length-append front [] in omega arith)
note_behind (q ∷ qs) front (x ∷ xs) =
    let more : List Place = front ++ q ∷ [] in
    let long : suc (length front) ≡ length more = (let e = length-append front (q ∷ []) in omega arith) in
    ap (note (suc (length front)) qs) (set-append_seam front x xs q ∙ sym (append_assoc front (q ∷ []) xs))
    ∙ ap (λ (i : ℕ). note i qs (more ++ xs)) long
    ∙ note_behind qs more xs
    ∙ append_assoc front (q ∷ []) (listed qs xs)

pub note_listed : (hits xs : List Place) → note 0 hits xs ≡ listed hits xs
note_listed hits xs = note_behind hits [] xs
