-- What the laws say of worksheets on which calls were made, and runs with the fronts of what is lent.
use Rattle.std.proofs.Common.{◌≡◌, ℕ, ◌+◌, ◌≤◌, min, List, ◌++◌, map, length, take, drop, sym, ap, ◌∙◌, subst, ap₂, subst₂, arith}
use Rattle.std.proofs.lemmas.List.{length-append, length-drop, length-take, take_all, take-append-drop}
use Rattle.cells.specs.Lattice.{Lattice}
use Rattle.sheets.specs.Sheet.{Sheet, shown}
use Rattle.morphology.specs.Calls.{new, run}
use Rattle.morphology.specs.Standing.{by_sort}
use Rattle.morphology.specs.FourSheets.{accepted, outcome}
use Rattle.morphology.specs.Matching.{MatchingStates}
use Rattle.morphology.specs.declared.call.Call.{Call}
use Rattle.morphology.specs.declared.call.Answer.{Answer}
use Rattle.morphology.proofs.Maps.{matching}
use Rattle.morphology.proofs.Runs.{four_sheets}
use Rattle.worksheets.specs.declared.worksheet.Worksheet.{Worksheet}
use Rattle.worksheets.specs.Performed.{state}
use Rattle.worksheets.specs.Runs.{within, made, Ran, Stands}
use Rattle.worksheets.specs.Pairs.{made_alike, RanBoth}
use Rattle.worksheets.proofs.Steps.{take_min}

-- the sheet that stands, of the four
module _ {K C S : Type 0} (k : Lattice C) (f : K → C) (sheet : S → Sheet K) (cs : List Call) (w w' : Worksheet S) where
  pub stands : state f sheet w' ≡ run k cs (state f sheet w) → Stands k f sheet cs w w'
  stands e m ts bare is =
      let g = shown f (sheet w.holder) in
      let newly : state f sheet w ≡ new g = ap (λ o. record { sheet = g; mask = o }) bare in
      ap (λ s. s.sheet) e
      ∙ ap₂ (λ ds s. (run k ds s).sheet) is newly
      ∙ (four_sheets k).stands m ts g
      ∙ ap (λ s. outcome (by_sort k m) (accepted k m ts s) g) (sym newly)

-- a run with the front of a table
module _ {K C S : Type 0} (k : Lattice C) (f : K → C) (sheet : S → Sheet K) (cs : List Call) (w w' : Worksheet S) (t p u : List K) (bs bs' : List Answer) (m : ℕ) where
  ran_front : m ≤ length t → p ≡ take m t → Ran k f sheet cs w w' p u bs bs' → Ran k f sheet cs w w' t (u ++ drop m t) bs bs'
  ran_front room part P =
      let l = P.table in
      let e : length p ≡ m = ap length part ∙ length-take m t ∙ omega arith in
      record {
        told = P.told;
        after = P.after;
        idle = λ j. let same = P.idle j in (same.0, ap (λ xs. xs ++ drop m t) (same.1 ∙ part) ∙ take-append-drop m t);
        table = length-append u (drop m t) ∙ ap (λ (n : ℕ). length u + n) (length-drop m t) ∙ omega (arith, l, e, room);
      }

-- with the shorter table and the shorter list, both worksheets are given the same calls
made_front : (n m c : ℕ) (calls : List Call) (x y : ℕ) → c ≡ min (min (length calls) x) y → c ≤ m → made n m (take c calls) ≡ made n (min x y) calls
made_front n m c calls x y e h =
    ap (map (within n)) (
    take_all m (take c calls) (let l = length-take c calls in omega arith)
    ∙ ap (λ (i : ℕ). take i calls) (omega arith)
    ∙ take_min calls (min x y)
    )

-- one list on two worksheets, each with its table and its list for the answers
module _ {K J C D S R : Type 0} (k : Lattice C) (l : Lattice D) (f : K → C) (g : J → D) (one : S → Sheet K) (two : R → Sheet J) (w w' : Worksheet S) (v v' : Worksheet R) (t p t' : List K) (u q u' : List J) (bs bs' ds ds' : List Answer) (calls part : List Call) (room count : ℕ) where
  pub ran_both : room ≡ min (length t) (length u) → count ≡ min (min (length calls) (length bs)) (length ds) → part ≡ take count calls → p ≡ take room t → q ≡ take room u →
      Ran k f one (made (length p) (length bs) part) w w' p t' bs bs' → Ran l g two (made (length q) (length ds) part) v v' q u' ds ds' →
      RanBoth k l f g one two (made_alike t u bs ds calls) w w' v v' t (t' ++ drop room t) u (u' ++ drop room u) bs bs' ds ds'
  ran_both er ec ep et eu P Q =
      let cs = made_alike t u bs ds calls in
      let lp : length p ≡ min (length t) (length u) = ap length et ∙ length-take room t ∙ omega arith in
      let lq : length q ≡ min (length t) (length u) = ap length eu ∙ length-take room u ∙ omega arith in
      let given_first : made (length p) (length bs) part ≡ cs =
      ap₂ (λ n xs. made n (length bs) xs) lp ep ∙ made_front (min (length t) (length u)) (length bs) count calls (length bs) (length ds) ec (omega arith) in
      let given_second : made (length q) (length ds) part ≡ cs =
      ap₂ (λ n xs. made n (length ds) xs) lq ep ∙ made_front (min (length t) (length u)) (length ds) count calls (length bs) (length ds) ec (omega arith) in
      let first : Ran k f one cs w w' t (t' ++ drop room t) bs bs' =
      ran_front k f one cs w w' t p t' bs bs' room (omega arith) et (subst (λ xs. Ran k f one xs w w' p t' bs bs') given_first P) in
      let second : Ran l g two cs v v' u (u' ++ drop room u) ds ds' =
      ran_front l g two cs v v' u q u' ds ds' room (omega arith) eu (subst (λ xs. Ran l g two xs v v' q u' ds ds') given_second Q) in
      record {
        first = first;
        second = second;
        first_stands = stands k f one cs w w' first.after;
        second_stands = stands l g two cs v v' second.after;
        matched = λ h e m. (
          subst₂ (MatchingStates h) (sym first.after) (sym second.after) ((matching k l).states h e cs (state f one w) (state g two v) m),
          (matching k l).replies h e cs (state f one w) (state g two v) m,
        );
      }
