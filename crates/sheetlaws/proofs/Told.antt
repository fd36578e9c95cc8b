-- A list of answers with a place for each call is written over whole.
use Rattle.std.proofs.Common.{◌≡◌, ℕ, ◌≤◌, List, ◌++◌, map, length, take, drop, ap, ◌∙◌, arith}
use Rattle.std.proofs.lemmas.List.{length-map, take_all, drop_all, append-nil}
use Rattle.cells.specs.Lattice.{Lattice}
use Rattle.morphology.specs.Calls.{State, answers}
use Rattle.morphology.specs.declared.call.Call.{Call}
use Rattle.morphology.specs.declared.call.Answer.{Answer}
use Rattle.morphology.proofs.Runs.{answers_long}
use Rattle.filters.specs.Lists.{written}
use Rattle.worksheets.specs.Runs.{within, made}

module _ {C : Type 0} (k : Lattice C) (cs : List Call) (s : State C) (n m : ℕ) (bs : List Answer) where
  pub told_all : length cs ≤ m → length bs ≡ length cs → written (answers k (made n m cs) s) bs ≡ answers k (map (within n) cs) s
  told_all room places =
      let ds = map (within n) cs in
      let long : length (answers k ds s) ≡ length cs = answers_long k ds s ∙ length-map cs (within n) in
      ap (λ xs. written (answers k (map (within n) xs) s) bs) (take_all m cs room)
      ∙ ap (λ xs. answers k ds s ++ xs) (drop_all (length (answers k ds s)) bs (omega (arith, long, places)))
      ∙ append-nil (answers k ds s)

  -- where they are lent from a longer list, it has them in front
  pub lent_all : (told : List Answer) (len : ℕ) → told ≡ answers k (map (within n) cs) s → length bs ≡ length cs → length bs ≤ len →
      take len (told ++ drop (length told) bs) ≡ answers k (map (within n) cs) s
  lent_all told len is places room =
      let long : length told ≡ length cs = ap length is ∙ answers_long k (map (within n) cs) s ∙ length-map cs (within n) in
      ap (λ xs. take len (told ++ xs)) (drop_all (length told) bs (omega (arith, long, places)))
      ∙ ap (take len) (append-nil told)
      ∙ take_all len told (omega (arith, long, places, room))
      ∙ is
