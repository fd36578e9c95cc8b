-- One more call of a list.
use Rattle.std.proofs.Common.{◌≡◌, ℕ, ◌+◌, ◌<◌, ◌≤◌, min, List, [], ◌∷◌, ◌++◌, map, length, get_or, take, drop, set, sym, refl, ap, ◌∙◌, subst, inl, inr, arith}
use lib.Seq.{append_snoc}
use Rattle.std.proofs.lemmas.List.{length-map, length-take, length-take-le, length_push, map_more, drop_more, set-append_right, take_all}
use Rattle.std.proofs.lemmas.Bool.{cases_lt}
use Rattle.std.specs.List.{AllByRecursion}
use Rattle.cells.specs.Lattice.{Lattice}
use Rattle.sheets.specs.Sheet.{Sheet}
use Rattle.morphology.specs.Calls.{State, after, answer, run, answers}
use Rattle.morphology.specs.declared.call.Call.{Call}
use Rattle.morphology.specs.declared.call.Answer.{Answer}
use Rattle.morphology.proofs.Runs.{answers_long}
use Rattle.filters.specs.Lists.{written}
use Rattle.worksheets.specs.declared.worksheet.Worksheet.{Worksheet}
use Rattle.worksheets.specs.Performed.{state}
use Rattle.worksheets.specs.Runs.{within, made, Idle, Called, Ran}

module _ {C : Type 0} (k : Lattice C) (c : Call) where
  run_push : (cs : List Call) (s : State C) → run k (cs ++ c ∷ []) s ≡ after k c (run k cs s)
  run_push [] s = refl
  run_push (d ∷ cs) s = run_push cs (after k d s)

  answers_push : (cs : List Call) (s : State C) → answers k (cs ++ c ∷ []) s ≡ answers k cs s ++ answer c (run k cs s) ∷ []
  answers_push [] s = refl
  answers_push (d ∷ cs) s = ap (λ bs. answer d s ∷ bs) (answers_push cs (after k d s))

all_front : {X : Type 0} (P : X → Type 0) (xs : List X) (x : X) → AllByRecursion P (xs ++ x ∷ []) → AllByRecursion P xs × P x
all_front P [] x h = (tt, h.0)
all_front P (y ∷ ys) x h = let r = all_front P ys x h.1 in ((h.0, r.0), r.1)

-- one more written over a list
pub written_more : {X : Type 0} (over xs : List X) (n : ℕ) (x : X) → length over ≡ n → n < length xs → set (written over xs) n x ≡ written (over ++ x ∷ []) xs
written_more over xs n x e h =
    set-append_right over (drop (length over) xs) n n x e (omega arith)
    ∙ ap (λ (i : ℕ). over ++ set (drop (length over) xs) i x) (omega arith)
    ∙ ap (λ ys. over ++ set ys 0 x) (drop_more xs (length over) x (omega arith))
    ∙ sym (append_snoc over x (drop (length over + 1) xs))
    ∙ ap (λ (i : ℕ). (over ++ x ∷ []) ++ drop i xs) (sym (length_push over x))

module _ {K C S : Type 0} (k : Lattice C) (f : K → C) (sheet : S → Sheet K) (w : Worksheet S) (t : List K) (bs : List Answer) where
  module _ (cs : List Call) (c : Call) (w1 w2 : Worksheet S) (t1 t2 : List K) (bs1 : List Answer) (a : Answer) (P : Ran k f sheet cs w w1 t t1 bs bs1) (Q : Called k f sheet c w1 w2 t1 t2 a) where
    answers_more : answers k cs (state f sheet w) ++ a ∷ [] ≡ answers k (cs ++ c ∷ []) (state f sheet w)
    answers_more =
        ap (λ b. answers k cs (state f sheet w) ++ b ∷ []) (Q.answer ∙ ap (answer c) P.after)
        ∙ sym (answers_push k c cs (state f sheet w))

    -- one call more
    pub ran_more : (i : ℕ) → length cs ≡ i → i < length bs → Ran k f sheet (cs ++ c ∷ []) w w2 t t2 bs (set bs1 i a)
    ran_more i long h =
        record {
          told =
              ap (λ xs. set xs i a) P.told
              ∙ written_more (answers k cs (state f sheet w)) bs i a (answers_long k cs (state f sheet w) ∙ long) h
              ∙ ap (λ xs. written xs bs) answers_more;
          after = Q.after ∙ ap (after k c) P.after ∙ sym (run_push k c cs (state f sheet w));
          idle = λ j.
              let both = all_front Idle (answers k cs (state f sheet w)) a (subst (AllByRecursion Idle) (sym answers_more) j) in
              let p = P.idle both.0 in
              let q = Q.idle both.1 in
              (q.0 ∙ p.0, q.1 ∙ p.1);
          table = Q.table ∙ P.table;
        }

-- the calls before call i, each with a table of at most n cells
abbrev pub front : ℕ → List Call → ℕ → List Call
front n calls i = map (within n) (take i calls)

front_more : (n : ℕ) (calls : List Call) (i : ℕ) (d : Call) → i < length calls → d ≡ get_or calls i d → front n calls (i + 1) ≡ front n calls i ++ within n d ∷ []
front_more n calls i d h e = map_more (within n) calls i d h ∙ ap (λ x. front n calls i ++ within n x ∷ []) (sym e)

front_long : (n : ℕ) (calls : List Call) (i : ℕ) → i ≤ length calls → length (front n calls i) ≡ i
front_long n calls i h = length-map (take i calls) (within n) ∙ length-take-le i calls h

-- a turn of the loop
module _ {K C S : Type 0} (k : Lattice C) (f : K → C) (sheet : S → Sheet K) (w w1 w2 : Worksheet S) (t t1 t2 : List K) (bs bs1 : List Answer) (calls : List Call) (i : ℕ) (d : Call) (a : Answer) where
  pub run_more : i < length calls → i < length bs → d ≡ get_or calls i d → Ran k f sheet (front (length t) calls i) w w1 t t1 bs bs1 → Called k f sheet (within (length t1) d) w1 w2 t1 t2 a →
      Ran k f sheet (front (length t) calls (i + 1)) w w2 t t2 bs (set bs1 i a)
  run_more h l e P Q =
      let n = length t in
      let Q' : Called k f sheet (within n d) w1 w2 t1 t2 a = subst (λ m. Called k f sheet (within m d) w1 w2 t1 t2 a) P.table Q in
      subst (λ ds. Ran k f sheet ds w w2 t t2 bs (set bs1 i a)) (sym (front_more n calls i d h e))
      (ran_more k f sheet w t bs (front n calls i) (within n d) w1 w2 t1 t2 bs1 a P Q' i (front_long n calls i (omega arith)) l)

-- as many calls as there are, and places for answers
pub take_min : {X : Type 0} (xs : List X) (m : ℕ) → take (min (length xs) m) xs ≡ take m xs
take_min xs m =
    elim (cases_lt m (length xs)) [
      | inl h ↦ ap (λ (i : ℕ). take i xs) (omega arith)
      | inr h ↦ take_all (min (length xs) m) xs (omega arith) ∙ sym (take_all m xs h)
    ]

pub front_all : (n : ℕ) (calls : List Call) (m i c : ℕ) → c ≡ min (length calls) m → length (take c calls) ≤ i → front n (take c calls) i ≡ made n m calls
front_all n calls m i c e p = ap (map (within n)) (take_all i (take c calls) p ∙ ap (λ (j : ℕ). take j calls) e ∙ take_min calls m)

pub made_long : (n : ℕ) (calls : List Call) (m : ℕ) → length (made n m calls) ≡ min (length calls) m
made_long n calls m = length-map (take m calls) (within n) ∙ length-take m calls ∙ omega arith
