-- A list of calls with one mask does the word of its accepted filters.
use Rattle.std.proofs.Common.{◌≡◌, ℕ, Bool, true, false, cond, ◌&&◌, ltb, List, [], ◌∷◌, map, length, suc, Some, None, Ok, Err, Option, Result, sym, refl, ap, ◌∙◌, subst, inl, inr}
use Rattle.cells.specs.Lattice.{Lattice}
use Rattle.masks.specs.Cost.{table_cells}
use Rattle.masks.specs.Points.{Among}
use Rattle.masks.specs.declared.mask.Mask.{Mask}
use Rattle.sheets.specs.Sheet.{Sheet}
use Rattle.morphology.specs.Filters.{points_of}
use Rattle.morphology.specs.Refusals.{fits, sized, by_mask}
use Rattle.morphology.specs.Calls.{State, new, filtered, verdict, sheet_by, after, run, answers, sheets_shown}
use Rattle.morphology.specs.declared.standing.Sort.{Sort}
use Rattle.morphology.specs.declared.standing.Sort.TheVariants.{Opening, Closing}
use Rattle.morphology.specs.Standing.{filter_of, by_sort, other}
use Rattle.morphology.specs.FourSheets.{Step, LayMask, ApplySort, call, counted, accepted, four, FourSheets}
use Rattle.morphology.specs.declared.refusal.Refusal.{Refusal}
use Rattle.morphology.specs.declared.refusal.Refusal.TheVariants.{WrongSize, ShortTable}
use Rattle.morphology.specs.declared.call.Call.{Call}
use Rattle.morphology.specs.declared.call.Call.TheVariants.{Lay, Apply}
use Rattle.morphology.proofs.Words.{through, through_outcome, through_among}
use Rattle.morphology.proofs.Sheets.{openings, close_open, open_close}

-- each call has an answer
pub answers_long : {C : Type 0} (k : Lattice C) (cs : List Call) (s : State C) → length (answers k cs s) ≡ length cs
answers_long k [] s = refl
answers_long k (c ∷ cs) s = ap suc (answers_long k cs (after k c s))

-- no mask but m lies
abbrev Laid : Mask → Option Mask → Type 0
Laid m None = Unit {0}
Laid m (Some n) = n ≡ m

-- no mask but m goes ahead
abbrev Goes : Mask → Result Mask Refusal → Type 0
Goes m (Ok n) = n ≡ m
Goes m (Err r) = Unit {0}

goes_cond : (m : Mask) (b : Bool) (v w : Result Mask Refusal) → Goes m v → Goes m w → Goes m (cond b v w)
goes_cond m true v w p q = p
goes_cond m false v w p q = q

goes_by_mask : (w n : ℕ) (m : Mask) (o : Option Mask) → Laid m o → Goes m (by_mask w o n)
goes_by_mask w n m None p = tt
goes_by_mask w n m (Some l) p = goes_cond m (ltb n (table_cells l.rows w)) (Err (ShortTable (table_cells l.rows w) n)) (Ok l) tt p

goes : {C : Type 0} (m : Mask) (s : State C) (n : ℕ) → Laid m s.mask → Goes m (verdict s n)
goes m s n p = goes_cond m (fits s.sheet.width && fits s.sheet.height) (by_mask s.sheet.width s.mask n)
    (Err (WrongSize (sized s.sheet.width s.sheet.height))) (goes_by_mask s.sheet.width n m s.mask p) tt

-- the word begins with a, if it has a letter
abbrev Starts : Sort → List Sort → Type 0
Starts a [] = Unit {0}
Starts a (b ∷ bs) = b ≡ a

abbrev first : List Sort → Sort
first [] = Opening
first (a ∷ bs) = a

counted_starts : (q : Sort) (v : Result Mask Refusal) (ws qs : List Sort) → Starts (first ws) qs →
    Starts (first (counted q v ws)) (counted q v qs)
counted_starts q (Ok m) ws qs h = refl
counted_starts q (Err r) ws qs h = h

module _ {C : Type 0} (k : Lattice C) (m : Mask) where
  through_counted : (q : Sort) (v : Result Mask Refusal) (qs : List Sort) (f : Sheet C) → Goes m v →
      through (by_sort k m) (counted q v qs) f ≡ through (by_sort k m) qs (sheet_by k (filter_of q) v f)
  through_counted q (Ok l) qs f p = ap (λ x. through (by_sort k m) qs (filtered k (filter_of q) x f)) (sym p)
  through_counted q (Err r) qs f p = refl

  -- a filter does its letter, if it is counted
  apply_does : (q : Sort) (n : ℕ) (s : State C) (qs : List Sort) → Laid m s.mask →
      through (by_sort k m) (counted q (verdict s n) qs) s.sheet ≡ through (by_sort k m) qs (after k (Apply (filter_of q) n) s).sheet
  apply_does q n s qs p = through_counted q (verdict s n) qs s.sheet (goes m s n p)

  run_word : (ts : List Step) (s : State C) → Laid m s.mask →
      (run k (map (call m) ts) s).sheet ≡ through (by_sort k m) (accepted k m ts s) s.sheet
  run_word [] s p = refl
  run_word (LayMask ∷ ts) s p = run_word ts (after k (Lay m) s) refl
  run_word (ApplySort q n ∷ ts) s p =
      let t = after k (Apply (filter_of q) n) s in
      run_word ts t p ∙ sym (apply_does q n s (accepted k m ts t) p)

  -- each sheet shown is that of a word that begins as the whole does
  words : (ts : List Step) (s : State C) → Laid m s.mask → (g : Sheet C) → Among (sheets_shown k (map (call m) ts) s) g →
      (qs : List Sort) × Starts (first (accepted k m ts s)) qs × (g ≡ through (by_sort k m) qs s.sheet)
  words [] s p g (inl e) = ([], tt, e)
  words [] s p g (inr i) = absurd i
  words (LayMask ∷ ts) s p g (inl e) = ([], tt, e)
  words (LayMask ∷ ts) s p g (inr i) = words ts (after k (Lay m) s) refl g i
  words (ApplySort q n ∷ ts) s p g (inl e) = ([], tt, e)
  words (ApplySort q n ∷ ts) s p g (inr i) =
      let t = after k (Apply (filter_of q) n) s in
      let w = words ts t p g i in (
        counted q (verdict s n) w.0,
        counted_starts q (verdict s n) (accepted k m ts t) w.0 w.1,
        w.2 ∙ sym (apply_does q n s w.0 p),
      )

  pub twice : (a : Sort) (f : Sheet C) → by_sort k m a (by_sort k m a f) ≡ by_sort k m a f
  twice Opening = (openings k).opened_twice (points_of m)
  twice Closing = (openings k).closed_twice (points_of m)

  pub again : (a : Sort) (f : Sheet C) →
      by_sort k m (other a) (by_sort k m a (by_sort k m (other a) (by_sort k m a f))) ≡ by_sort k m (other a) (by_sort k m a f)
  again Opening = close_open k (points_of m)
  again Closing = open_close k (points_of m)

  word_among : (a : Sort) (qs : List Sort) → Starts a qs → (f : Sheet C) → Among (four (by_sort k m) a f) (through (by_sort k m) qs f)
  word_among a [] p f = inl refl
  word_among a (b ∷ bs) p f = subst (λ z. Among (four (by_sort k m) z f) (through (by_sort k m) (b ∷ bs) f)) p
      (through_among (by_sort k m) twice again b bs f)

pub four_sheets : {C : Type 0} (k : Lattice C) → FourSheets k
four_sheets k = record {
  stands = λ m ts f. run_word k m ts (new f) tt ∙ through_outcome (by_sort k m) (twice k m) (again k m) (accepted k m ts (new f)) f;
  at_most = λ m ts f. (
    first (accepted k m ts (new f)),
    λ g i.
        let q = first (accepted k m ts (new f)) in
        let w = words k m ts (new f) tt g i in
        subst (Among (four (by_sort k m) q f)) (sym w.2) (word_among k m q w.0 w.1 f),
  );
  refused = λ q n s r e. λ i. record { sheet = ap (λ v. sheet_by k q v s.sheet) e i; mask = s.mask };
}
