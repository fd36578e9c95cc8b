-- The lines around the first that begins a part.
use Rattle.std.proofs.Common.{◌≡◌, ℕ, zero, suc, ◌+◌, ◌-◌, ◌<◌, List, [], ◌∷◌, ◌++◌, false, map, length, take, drop, get_or, sym, ap, ◌∙◌, subst, arith, String, string_bytes}
use Rattle.std.specs.List.{AllWithin}
use Rattle.std.specs.declared.alloc.Global.{Global}
use Rattle.std.proofs.lemmas.List.{take_all, take-append-drop, drop_more, get_or-take, length-take, length-drop}
use Rattle.texts.specs.Lines.{numbered_from}
use Rattle.texts.specs.Parts.{Begins, IsFirst, Cuts, IsBegunBy, LacksText}
use Rattle.texts.specs.Views.{LacksIn, CutsIn, IsFirstText}
use Rattle.texts.specs.declared.line.Line.{Line}
use Rattle.texts.specs.declared.part.Part.{Part}
use Rattle.texts.proofs.Views.{shown_drop, shown_take, shown_long}

module _ {X : Type 0} (P : X → Type 0) (xs : List X) (i : ℕ) where
  within_before : i < length xs → AllWithin P xs 0 i → AllWithin P (take i xs) 0 (length (take i xs))
  within_before inside below = λ k d low short.
      let n = length-take i xs in
      let lower : k < i = omega (arith, short, n, inside) in
      subst P (sym (get_or-take i xs k d lower)) (below k d low lower)

module _ (p : Part) (ls : List Line) (i : ℕ) (d : Line) where
  pub cuts_at : IsFirst p ls i →
      Cuts p ls (take i ls) (get_or ls i d) (take (length ls - (i + 1)) (drop (i + 1) ls))
  cuts_at found =
      let behind = drop (i + 1) ls in
      let all : take (length ls - (i + 1)) behind ≡ behind =
      take_all (length ls - (i + 1)) behind (let n = length-drop (i + 1) ls in omega (arith, n)) in
      record {
        whole = sym (take-append-drop i ls) ∙ ap (λ xs. take i ls ++ xs) (drop_more ls i d found.0 ∙ ap (λ xs. get_or ls i d ∷ xs) (sym all));
        begun = found.1 d;
        first = within_before (λ l. Begins p l.text.now false) ls i found.0 found.2;
      }

-- what holds of each text holds of each line
module _ (P : List ℕ → Type 0) where
  text_at : (n : ℕ) (ts : List (String Global)) (k : ℕ) (d : ℕ × List ℕ) → k < length ts → AllWithin (λ t. P (string_bytes t)) ts 0 (length ts) →
      P (get_or (numbered_from n (map string_bytes ts)) k d).1
  text_at n [] k d short all = absurd (omega (arith, short))
  text_at n (t ∷ ts) zero d short all = all 0 t (omega arith) short
  text_at n (t ∷ ts) (suc k) d short all =
      let less : k < length ts = omega (arith, short) in
      text_at (n + 1) ts k d less (λ j e low lower. let more : suc j < suc (length ts) = omega (arith, lower) in all (suc j) e (omega arith) more)

  all_texts : (n : ℕ) (ts : List (String Global)) → AllWithin (λ t. P (string_bytes t)) ts 0 (length ts) →
      AllWithin (λ l. P l.1) (numbered_from n (map string_bytes ts)) 0 (length (numbered_from n (map string_bytes ts)))
  all_texts n ts all = λ k d low short.
      let long = shown_long n ts in
      let less : k < length ts = omega (arith, short, long) in
      text_at n ts k d less all

pub lacks_in : (p : Part) (n : ℕ) (ts : List (String Global)) → LacksText p ts → LacksIn p (numbered_from n (map string_bytes ts))
lacks_in p n ts none = all_texts (λ t. IsBegunBy p t false) n ts none

module _ (p : Part) (n : ℕ) (ts : List (String Global)) (i : ℕ) (d : String Global) where
  abbrev before : List (ℕ × List ℕ)
  before = numbered_from n (map string_bytes (take i ts))

  abbrev behind : List (ℕ × List ℕ)
  behind = numbered_from (n + i + 1) (map string_bytes (take (length ts - (i + 1)) (drop (i + 1) ts)))

  cuts_in_there : IsFirstText p ts i → CutsIn p (numbered_from n (map string_bytes ts)) before (n + i, string_bytes (get_or ts i d)) behind
  cuts_in_there found =
      let rest = drop (i + 1) ts in
      let all : take (length ts - (i + 1)) rest ≡ rest =
      take_all (length ts - (i + 1)) rest (let m = length-drop (i + 1) ts in omega (arith, m)) in
      let ls = numbered_from n (map string_bytes ts) in
      record {
        whole = sym (take-append-drop i ls)
            ∙ ap (λ xs. take i ls ++ xs) (shown_drop n ts i d found.0 ∙ ap (λ ss. (n + i, string_bytes (get_or ts i d)) ∷ numbered_from (n + i + 1) (map string_bytes ss)) (sym all))
            ∙ ap (λ xs. xs ++ (n + i, string_bytes (get_or ts i d)) ∷ behind) (shown_take n ts i);
        begun = found.1 d;
        first = lacks_in p n (take i ts) (within_before (λ t. IsBegunBy p (string_bytes t) false) ts i found.0 found.2);
      }

  pub cuts_in_at : (t : List ℕ) → t ≡ string_bytes (get_or ts i d) → IsFirstText p ts i → CutsIn p (numbered_from n (map string_bytes ts)) before (n + i, t) behind
  cuts_in_at t is found = subst (λ (s : List ℕ). CutsIn p (numbered_from n (map string_bytes ts)) before (n + i, s) behind) (sym is) (cuts_in_there found)
