-- Acts with masks of the same points leave the same sheet and have the same lines.
use Rattle.std.proofs.Common.{◌≡◌, ℕ, ◌*◌, Bool, true, false, cond, ltb, ◌&&◌, List, [], ◌∷◌, ◌++◌, length, Option, Some, None, Result, Ok, Err, sym, refl, ap, ◌∙◌, subst}
use Rattle.cells.specs.Lattice.{Lattice}
use Rattle.masks.specs.Rows.{marked, points}
use Rattle.masks.specs.Chords.{chords}
use Rattle.masks.specs.Cost.{table_cells}
use Rattle.masks.specs.declared.mask.Mask.{Mask}
use Rattle.masks.specs.declared.chord.Chord.{Chord}
use Rattle.masks.specs.declared.point.Point.{Point}
use Rattle.sheets.specs.Sheet.{Sheet}
use Rattle.morphology.specs.Calls.{State, filtered, picks, sheet_by, answered_by}
use Rattle.morphology.specs.Filters.{eroded, dilated, opened, closed}
use Rattle.morphology.specs.Refusals.{fits, sized, judged, by_mask}
use Rattle.morphology.specs.declared.refusal.Refusal.{Refusal}
use Rattle.morphology.specs.declared.refusal.Refusal.TheVariants.{WrongSize, ShortTable}
use Rattle.morphology.specs.declared.call.Filter as filters
use Rattle.morphology.specs.declared.call.Filter.TheVariants.{Erode, Dilate, Open, Close}
use Rattle.jobs.specs.Acts.{Alike}
use Rattle.jobs.specs.Listings.{line_of, left, lines, rows, performed}
use Rattle.jobs.specs.declared.act.Act.{Act}
use Rattle.jobs.specs.declared.act.Act.TheVariants.{Run, Filter}
use Rattle.jobs.specs.declared.line.Line.{Line}
use Rattle.jobs.specs.declared.line.Line.TheVariants.{Sheet as SheetLine, Mask as MaskLine, Call}
use Rattle.strips.specs.declared.kind.CellKind.{CellKind}
use Rattle.jobs.proofs.Marks.{points_same, chords_same, table_same, filter_same}

AlikeMask : Option Mask → Option Mask → Type 0
AlikeMask None None = Unit {0}
AlikeMask None (Some n) = ⊥
AlikeMask (Some m) None = ⊥
AlikeMask (Some m) (Some n) = marked m.rows ≡ marked n.rows

AlikeVerdict : Result Mask Refusal → Result Mask Refusal → Type 0
AlikeVerdict (Ok m) (Ok n) = marked m.rows ≡ marked n.rows
AlikeVerdict (Ok m) (Err r) = ⊥
AlikeVerdict (Err q) (Ok n) = ⊥
AlikeVerdict (Err q) (Err r) = q ≡ r

either_way : (b : Bool) (x y z : Result Mask Refusal) → AlikeVerdict x y → AlikeVerdict z z → AlikeVerdict (cond b x z) (cond b y z)
either_way true x y z h k = h
either_way false x y z h k = k

by_test : (b : Bool) (r : Refusal) (m n : Mask) → marked m.rows ≡ marked n.rows → AlikeVerdict (cond b (Err r) (Ok m)) (cond b (Err r) (Ok n))
unfolding AlikeVerdict
by_test true r m n e = refl
by_test false r m n e = e

mask_alike : (w : ℕ) (a b : Option Mask) (n : ℕ) → AlikeMask a b → AlikeVerdict (by_mask w a n) (by_mask w b n)
unfolding AlikeMask AlikeVerdict
mask_alike w None None n e = refl
mask_alike w None (Some m) n e = absurd e
mask_alike w (Some m) None n e = absurd e
mask_alike w (Some m) (Some m') n e =
    let t = table_cells m.rows w in
    subst (λ (t' : ℕ). AlikeVerdict (cond (ltb n t) (Err (ShortTable t n)) (Ok m)) (cond (ltb n t') (Err (ShortTable t' n)) (Ok m'))) (table_same m.rows m'.rows e w)
    (by_test (ltb n t) (ShortTable t n) m m' e)

judged_alike : (w h : ℕ) (a b : Option Mask) (n : ℕ) → AlikeMask a b → AlikeVerdict (judged w h a n) (judged w h b n)
unfolding AlikeVerdict
judged_alike w h a b n e = either_way (fits w && fits h) (by_mask w a n) (by_mask w b n) (Err (WrongSize (sized w h))) (mask_alike w a b n e) refl

filtered_same : {C : Type 0} (k : Lattice C) (q : filters.Filter) (m n : Mask) (f : Sheet C) → marked m.rows ≡ marked n.rows → filtered k q m f ≡ filtered k q n f
filtered_same k Erode m n f e = ap (λ (ps : List Point). eroded k ps f) (points_same m.rows n.rows e)
filtered_same k Dilate m n f e = ap (λ (ps : List Point). dilated k ps f) (points_same m.rows n.rows e)
filtered_same k Open m n f e = ap (λ (ps : List Point). opened k ps f) (points_same m.rows n.rows e)
filtered_same k Close m n f e = ap (λ (ps : List Point). closed k ps f) (points_same m.rows n.rows e)

picks_same : (q : filters.Filter) (m n : Mask) (w h : ℕ) → marked m.rows ≡ marked n.rows → picks q m w h ≡ picks q n w h
picks_same Erode m n w h e = filter_same m.rows n.rows e w h
picks_same Dilate m n w h e = filter_same m.rows n.rows e w h
picks_same Open m n w h e = ap (λ (p : ℕ). 2 * p) (filter_same m.rows n.rows e w h)
picks_same Close m n w h e = ap (λ (p : ℕ). 2 * p) (filter_same m.rows n.rows e w h)

sheet_same : {C : Type 0} (k : Lattice C) (q : filters.Filter) (u v : Result Mask Refusal) (f : Sheet C) → AlikeVerdict u v → sheet_by k q u f ≡ sheet_by k q v f
unfolding AlikeVerdict
sheet_same k q (Ok m) (Ok n) f e = filtered_same k q m n f e
sheet_same k q (Ok m) (Err r) f e = absurd e
sheet_same k q (Err r) (Ok n) f e = absurd e
sheet_same k q (Err r) (Err s) f e = refl

answer_same : (q : filters.Filter) (u v : Result Mask Refusal) (w h : ℕ) → AlikeVerdict u v → answered_by q u w h ≡ answered_by q v w h
unfolding AlikeVerdict
answer_same q (Ok m) (Ok n) w h e = ap (λ (p : ℕ). Ok p) (picks_same q m n w h e)
answer_same q (Ok m) (Err r) w h e = absurd e
answer_same q (Err r) (Ok n) w h e = absurd e
answer_same q (Err r) (Err s) w h e = ap (λ (p : Refusal). Err p) e

-- a sheet under a mask
at : {C : Type 0} → Sheet C → Option Mask → State C
at f a = record { sheet = f; mask = a }

module _ {C : Type 0} (k : Lattice C) where
  lines_alike : (xs ys : List Act) (f : Sheet C) (a b : Option Mask) → Alike xs ys → AlikeMask a b → (lines k xs (at f a) ≡ lines k ys (at f b)) × ((left k xs (at f a)).sheet ≡ (left k ys (at f b)).sheet)
  unfolding at AlikeMask
  lines_alike [] [] f a b h e = (refl, refl)
  lines_alike [] (y ∷ ys) f a b h e = absurd h
  lines_alike (x ∷ xs) [] f a b h e = absurd h
  lines_alike (Run (Ok m) ∷ xs) (Run (Ok n) ∷ ys) f a b h e =
      let rest = lines_alike xs ys f (Some m) (Some n) h.1 h.0 in
      let one : ℕ → ℕ → Line = λ p c. MaskLine p c in (
        ap (λ (ps : List Point). one (length ps) (length (chords m.rows 31)) ∷ lines k xs (at f (Some m))) (points_same m.rows n.rows h.0)
            ∙ ap (λ (cs : List Chord). one (length (points n.rows 31)) (length cs) ∷ lines k xs (at f (Some m))) (chords_same m.rows n.rows h.0)
            ∙ ap (λ (ls : List Line). one (length (points n.rows 31)) (length (chords n.rows 31)) ∷ ls) rest.0,
        rest.1,
      )
  lines_alike (Run (Ok m) ∷ xs) (Run (Err g) ∷ ys) f a b h e = absurd h.0
  lines_alike (Run (Ok m) ∷ xs) (Filter q ∷ ys) f a b h e = absurd h.0
  lines_alike (Run (Err g) ∷ xs) (y ∷ ys) f a b h e =
      let rest = lines_alike xs ys f a b h.1 e in
      subst (λ (z : Act). (lines k (Run (Err g) ∷ xs) (at f a) ≡ lines k (z ∷ ys) (at f b)) × ((left k (Run (Err g) ∷ xs) (at f a)).sheet ≡ (left k (z ∷ ys) (at f b)).sheet)) (sym h.0)
      (ap (λ (ls : List Line). line_of (Run (Err g)) (at f a) ∷ ls) rest.0, rest.1)
  lines_alike (Filter q ∷ xs) (y ∷ ys) f a b h e =
      let u = judged f.width f.height a 16384 in
      let v = judged f.width f.height b 16384 in
      let uv = judged_alike f.width f.height a b 16384 e in
      let g = sheet_by k q u f in
      let g' = sheet_by k q v f in
      let rest = lines_alike xs ys g a b h.1 e in
      let s : g ≡ g' = sheet_same k q u v f uv in
      let t : answered_by q u f.width f.height ≡ answered_by q v f.width f.height = answer_same q u v f.width f.height uv in
      subst (λ (z : Act). (lines k (Filter q ∷ xs) (at f a) ≡ lines k (z ∷ ys) (at f b)) × ((left k (Filter q ∷ xs) (at f a)).sheet ≡ (left k (z ∷ ys) (at f b)).sheet)) (sym h.0) (
        ap (λ (r : Result ℕ Refusal). Call q r ∷ lines k xs (at g a)) t
            ∙ ap (λ (ls : List Line). Call q (answered_by q v f.width f.height) ∷ ls) (rest.0 ∙ ap (λ (i : Sheet C). lines k ys (at i b)) s),
        rest.1 ∙ ap (λ (i : Sheet C). (left k ys (at i b)).sheet) s,
      )

  pub performed_alike : (named : C → ℕ) (kind : CellKind) (xs ys : List Act) (f : Sheet C) → Alike xs ys → performed k named kind xs f ≡ performed k named kind ys f
  unfolding at AlikeMask
  performed_alike named kind xs ys f h =
      let p = lines_alike xs ys f None None h tt in
      ap (λ (ls : List Line). SheetLine kind (sized f.width f.height) ∷ [] ++ ls ++ rows kind named (left k xs (at f None)).sheet) p.0
      ∙ ap (λ (i : Sheet C). SheetLine kind (sized f.width f.height) ∷ [] ++ lines k ys (at f None) ++ rows kind named i) p.1
