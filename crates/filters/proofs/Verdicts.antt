-- The verdict on a filter, by what its plan needs, and the picks by its plan.
use Rattle.std.proofs.Common.{◌≡◌, ℕ, ◌+◌, ◌-◌, ◌*◌, ◌<◌, ◌≤◌, Bool, true, false, cond, ◌&&◌, ltb, List, map, length, Some, Ok, Err, Result, sym, refl, ap, ◌∙◌, ap₂, mul_assoc, mul_comm, arith}
use Rattle.std.proofs.lemmas.Bool.{lt-ltb, le-ltb}
use Rattle.cells.specs.Lattice.{Lattice, dual}
use Rattle.masks.specs.Chords.{chords}
use Rattle.masks.specs.Cost.{spanned, table_cells, line_picks, filter_picks}
use Rattle.masks.specs.Lengths.{lengths}
use Rattle.masks.specs.Points.{turned}
use Rattle.masks.specs.declared.mask.Mask.{Mask}
use Rattle.masks.specs.declared.point.Point.{Point}
use Rattle.sheets.specs.Sheet.{Sheet}
use Rattle.morphology.specs.Calls.{sheet_by, answered_by}
use Rattle.morphology.specs.Filters.{points_of}
use Rattle.morphology.specs.Refusals.{fits, sized, by_table, and_then, judged, judged_find}
use Rattle.morphology.specs.declared.call.Filter.TheVariants.{Erode, Dilate}
use Rattle.morphology.specs.declared.refusal.Refusal.{Refusal}
use Rattle.morphology.specs.declared.refusal.Refusal.TheVariants.{WrongSize, ShortTable}
use Rattle.morphology.proofs.Gathers.{turning}
use Rattle.plans.specs.declared.plan.Plan.{Plan}
use Rattle.plans.specs.Plan.{PlanOf}
use Rattle.plans.specs.Shown.{lengths_of, chords_of}
use Rattle.filters.specs.Calls.{verdict, eroded_by}

-- the table that the plan needs is the mask's
plan_table : (ws : List ℕ) (ps : List Point) (p : Plan) (w : ℕ) → PlanOf ws ps p → p.rows * length (lengths_of p) * (w + 30) ≡ table_cells ws w
unfolding table_cells
plan_table ws ps p w P = ap₂ (λ (v n : ℕ). v * n * (w + 30)) P.rows (ap length P.lengths)

-- and so are the picks
pub plan_picks : (ws : List ℕ) (ps : List Point) (p : Plan) (w h : ℕ) → PlanOf ws ps p →
    (h + p.rows - 1) * line_picks w (lengths_of p) + h * (w * (length (chords_of p) - 1)) ≡ filter_picks ws w h
unfolding filter_picks
plan_picks ws ps p w h P =
    let c : h * (w * (length (chords_of p) - 1)) ≡ w * h * (length (chords_of p) - 1) = sym (mul_assoc h w (length (chords_of p) - 1)) ∙ ap (λ (n : ℕ). n * (length (chords_of p) - 1)) (mul_comm h w) in
    ap (λ (n : ℕ). (h + p.rows - 1) * line_picks w (lengths_of p) + n) c
    ∙ ap (λ (n : ℕ). (h + n - 1) * line_picks w (lengths_of p) + w * h * (length (chords_of p) - 1)) P.rows
    ∙ ap (λ (l : List ℕ). (h + spanned ws - 1) * line_picks w l + w * h * (length (chords_of p) - 1)) P.lengths
    ∙ ap (λ (n : ℕ). (h + spanned ws - 1) * line_picks w (lengths (chords ws 31)) + w * h * (n - 1)) P.count

module _ (w h : ℕ) (m : Mask) (n : ℕ) (ps : List Point) (p : Plan) (P : PlanOf m.rows ps p) where
  by_size : (b : Bool) → (fits w && fits h) ≡ b → judged w h (Some m) n ≡ cond b (by_table w m n) (Err (WrongSize (sized w h)))
  by_size b e = ap (λ (t : Bool). cond t (by_table w m n) (Err (WrongSize (sized w h)))) e

  pub judged_short : (fits w && fits h) ≡ true → n < p.rows * length (lengths_of p) * (w + 30) → judged w h (Some m) n ≡ Err (ShortTable (p.rows * length (lengths_of p) * (w + 30)) n)
  judged_short e less =
      let t = plan_table m.rows ps p w P in
      let l : n < table_cells m.rows w = omega (arith, t) in
      by_size true e
      ∙ ap (λ (b : Bool). cond b (Err (ShortTable (table_cells m.rows w) n)) (Ok m)) (lt-ltb n (table_cells m.rows w) l)
      ∙ ap (λ (k : ℕ). Err (ShortTable k n)) (sym t)

  pub judged_ok : (fits w && fits h) ≡ true → p.rows * length (lengths_of p) * (w + 30) ≤ n → judged w h (Some m) n ≡ Ok m
  judged_ok e room =
      let t = plan_table m.rows ps p w P in
      let l : table_cells m.rows w ≤ n = omega (arith, t) in
      by_size true e
      ∙ ap (λ (b : Bool). cond b (Err (ShortTable (table_cells m.rows w) n)) (Ok m)) (le-ltb n (table_cells m.rows w) l)

-- where the verdict is no refusal it is the mask itself
module _ {C : Type 0} (k : Lattice C) (m : Mask) (f : Sheet C) where
  eroded_cases : (b c : Bool) (q r : Refusal) → eroded_by (cond b (cond c (Err q) (Ok m)) (Err r)) k (points_of m) f ≡ sheet_by k Erode (cond b (cond c (Err q) (Ok m)) (Err r)) f
  eroded_cases true true q r = refl
  eroded_cases true false q r = refl
  eroded_cases false c q r = refl

  dilated_cases : (b c : Bool) (q r : Refusal) → eroded_by (cond b (cond c (Err q) (Ok m)) (Err r)) (dual k) (map turned (points_of m)) f ≡ sheet_by k Dilate (cond b (cond c (Err q) (Ok m)) (Err r)) f
  dilated_cases true true q r = refl
  dilated_cases true false q r = sym (turning k (points_of m) f)
  dilated_cases false c q r = refl

  pub eroded_verdict : {D : Type 0} (s : Sheet D) (n : ℕ) → eroded_by (verdict s m n) k (points_of m) f ≡ sheet_by k Erode (verdict s m n) f
  eroded_verdict s n =
      eroded_cases (fits s.width && fits s.height) (ltb n (table_cells m.rows s.width)) (ShortTable (table_cells m.rows s.width) n) (WrongSize (sized s.width s.height))

  -- a dilation is the erosion of the dual lattice under the turned points
  pub dilated_verdict : {D : Type 0} (s : Sheet D) (n : ℕ) → eroded_by (verdict s m n) (dual k) (map turned (points_of m)) f ≡ sheet_by k Dilate (verdict s m n) f
  dilated_verdict s n =
      dilated_cases (fits s.width && fits s.height) (ltb n (table_cells m.rows s.width)) (ShortTable (table_cells m.rows s.width) n) (WrongSize (sized s.width s.height))

-- a dilation makes as many picks as an erosion
pub dilated_answer : (v : Result Mask Refusal) (w h : ℕ) → answered_by Erode v w h ≡ answered_by Dilate v w h
dilated_answer (Ok m) w h = refl
dilated_answer (Err r) w h = refl

-- a find is judged by its fore mask, and then by its back mask
find_cases : (b : Bool) (fores backs v : Result Mask Refusal) (r : Refusal) (m : Mask) → cond b fores (Err r) ≡ Ok m → cond b backs (Err r) ≡ v → and_then (cond b fores (Err r)) (λ _. backs) ≡ v
find_cases true fores backs v r m e d = ap (λ t. and_then t (λ _. backs)) e ∙ d
find_cases false fores backs v r m e d = cc

pub find_judged : (w h n l : ℕ) (fore back : Mask) (v : Result Mask Refusal) → judged w h (Some fore) n ≡ Ok fore → judged w h (Some back) l ≡ v → judged_find w h fore n back l ≡ v
find_judged w h n l fore back v e d = find_cases (fits w && fits h) (by_table w fore n) (by_table w back l) v (WrongSize (sized w h)) fore e d
