-- A lattice map carries every filter, and with it every call.
use Rattle.std.proofs.Common.{◌≡◌, List, [], ◌∷◌, map, ℤ, pos, negsuc, ◌+ℤ◌, ◌-ℤ◌, Some, None, Ok, Err, Option, Result, sym, refl, ap, ◌∙◌, ap₂}
use Rattle.std.specs.Option.{option_map}
use Rattle.cells.specs.Lattice.{Lattice, LatticeMap, dual}
use Rattle.masks.specs.declared.mask.Mask.{Mask}
use Rattle.masks.specs.declared.point.Point.{Point}
use Rattle.sheets.specs.Sheet.{Sheet, shown}
use Rattle.sheets.proofs.Equal.{same_sheet}
use Rattle.morphology.specs.Bounds.{meets}
use Rattle.morphology.specs.Filters.{at, seen, gathered, eroded, dilated, points_of}
use Rattle.morphology.specs.Calls.{State, filtered, verdict, sheet_by, after, answer, run, answers}
use Rattle.morphology.specs.Matching.{MatchingStates, Matching}
use Rattle.morphology.specs.declared.refusal.Refusal.{Refusal}
use Rattle.morphology.specs.declared.call.Filter.{Filter}
use Rattle.morphology.specs.declared.call.Filter.TheVariants.{Erode, Dilate, Open, Close}
use Rattle.morphology.specs.declared.call.Call.{Call}
use Rattle.morphology.specs.declared.call.Call.TheVariants.{Lay, Apply}

module _ {A B : Type 0} (h : A → B) where
  at_map : (f : Sheet A) (x y : ℤ) → at (shown h f) x y ≡ option_map h (at f x y)
  at_map f (negsuc x) y = refl
  at_map f (pos x) (negsuc y) = refl
  at_map f (pos x) (pos y) = refl

  mapped_map : (o : Option A) (b : B) (a : A) → b ≡ h a → option_map (λ _. b) (option_map h o) ≡ option_map h (option_map (λ _. a) o)
  mapped_map None b a p = refl
  mapped_map (Some c) b a p = ap Some p

  abbrev map_state : State A → State B
  map_state s = record { sheet = shown h s.sheet; mask = s.mask }

abbrev dual_map : {A B : Type 0} {k : Lattice A} {l : Lattice B} {h : A → B} → LatticeMap k l h → LatticeMap (dual k) (dual l) h
dual_map e = record { least = e.greatest; greatest = e.least; meet = e.join; join = e.meet }

module _ {A B : Type 0} (k : Lattice A) (l : Lattice B) (h : A → B) (e : LatticeMap k l h) where
  cons_map : (o : Option A) (os : List (Option A)) (rs : List (Option B)) → meets l rs ≡ h (meets k os) →
      meets l (option_map h o ∷ rs) ≡ h (meets k (o ∷ os))
  unfolding meets
  cons_map None os rs q = q
  cons_map (Some a) os rs q = ap (l.meet (h a)) q ∙ sym (e.meet a (meets k os))

  greatest_map : meets l [] ≡ h (meets k [])
  unfolding meets
  greatest_map = sym e.greatest

  meets_map : (look : Point → Option A) (look' : Point → Option B) → ((p : Point) → look' p ≡ option_map h (look p)) →
      (ps : List Point) → meets l (map look' ps) ≡ h (meets k (map look ps))
  meets_map look look' q [] = greatest_map
  meets_map look look' q (p ∷ ps) =
      ap (λ o. meets l (o ∷ map look' ps)) (q p) ∙ cons_map (look p) (map look ps) (map look' ps) (meets_map look look' q ps)

  gathered_map : (go : ℤ → ℤ → ℤ) (ps : List Point) (f : Sheet A) → gathered l go ps (shown h f) ≡ shown h (gathered k go ps f)
  unfolding gathered
  gathered_map go ps f = same_sheet _ _ refl refl (λ x y. mapped_map h (f.cell x y) _ _
      (meets_map (seen go f (pos x) (pos y)) (seen go (shown h f) (pos x) (pos y))
      (λ p. at_map h f (go (pos x) p.u) (go (pos y) p.v)) ps))

module _ {A B : Type 0} (k : Lattice A) (l : Lattice B) (h : A → B) (e : LatticeMap k l h) where
  eroded_map : (ps : List Point) (f : Sheet A) → eroded l ps (shown h f) ≡ shown h (eroded k ps f)
  eroded_map = gathered_map k l h e ◌+ℤ◌

  dilated_map : (ps : List Point) (f : Sheet A) → dilated l ps (shown h f) ≡ shown h (dilated k ps f)
  dilated_map = gathered_map (dual k) (dual l) h (dual_map e) ◌-ℤ◌

  filtered_map : (q : Filter) (m : Mask) (f : Sheet A) → filtered l q m (shown h f) ≡ shown h (filtered k q m f)
  filtered_map Erode m f = eroded_map (points_of m) f
  filtered_map Dilate m f = dilated_map (points_of m) f
  filtered_map Open m f =
      ap (dilated l (points_of m)) (eroded_map (points_of m) f) ∙ dilated_map (points_of m) (eroded k (points_of m) f)
  filtered_map Close m f =
      ap (eroded l (points_of m)) (dilated_map (points_of m) f) ∙ eroded_map (points_of m) (dilated k (points_of m) f)

  sheet_by_map : (q : Filter) (v : Result Mask Refusal) (f : Sheet A) → sheet_by l q v (shown h f) ≡ shown h (sheet_by k q v f)
  sheet_by_map q (Ok m) f = filtered_map q m f
  sheet_by_map q (Err r) f = refl

  after_map : (c : Call) (s : State A) → after l c (map_state h s) ≡ map_state h (after k c s)
  after_map (Lay m) s = refl
  after_map (Apply q n) s = λ i. record { sheet = sheet_by_map q (verdict s n) s.sheet i; mask = s.mask }

  answer_map : (c : Call) (s : State A) → answer c (map_state h s) ≡ answer c s
  answer_map (Lay m) s = refl
  answer_map (Apply q n) s = refl

  run_map : (cs : List Call) (s : State A) → run l cs (map_state h s) ≡ map_state h (run k cs s)
  run_map [] s = refl
  run_map (c ∷ cs) s = ap (run l cs) (after_map c s) ∙ run_map cs (after k c s)

  answers_map : (cs : List Call) (s : State A) → answers l cs (map_state h s) ≡ answers k cs s
  answers_map [] s = refl
  answers_map (c ∷ cs) s = ap₂ ◌∷◌ (answer_map c s) (ap (answers l cs) (after_map c s) ∙ answers_map cs (after k c s))

-- two states match exactly when the second is the first, mapped
module _ {A B : Type 0} (h : A → B) (s : State A) (t : State B) where
  matched : MatchingStates h s t → map_state h s ≡ t
  matched p = λ i. record {
    sheet = same_sheet (shown h s.sheet) t.sheet p.sheet.width p.sheet.height p.sheet.cells i;
    mask = p.mask i;
  }

  matches : map_state h s ≡ t → MatchingStates h s t
  matches p = record {
    sheet = record {
      width = ap (λ u. u.sheet.width) p;
      height = ap (λ u. u.sheet.height) p;
      cells = λ x y. ap (λ u. u.sheet.cell x y) p;
    };
    mask = ap (λ u. u.mask) p;
  }

pub matching : {A B : Type 0} (k : Lattice A) (l : Lattice B) → Matching k l
matching k l = record {
  states = λ h e cs s t p. matches h _ _ (sym (run_map k l h e cs s) ∙ ap (run l cs) (matched h s t p));
  replies = λ h e cs s t p. sym (answers_map k l h e cs s) ∙ ap (answers l cs) (matched h s t p);
}
