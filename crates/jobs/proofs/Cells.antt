-- The topmost of stored values shows the topmost of raw words.
use Rattle.std.proofs.Common.{◌≡◌, ℕ, ◌+◌, Bool, true, false, cond, List, map, length, Option, Some, None, sym, refl, ap, ◌∙◌}
use mathlib.Core.Path.{fun_ext}
use Rattle.std.specs.List.{slice_get}
use Rattle.std.specs.Option.{option_map}
use Rattle.std.proofs.lemmas.List.{length-map}
use Rattle.std.proofs.lemmas.Option.{slice_get-map}
use Rattle.sheets.specs.Sheet.{Sheet, shown, inside}
use Rattle.sheets.specs.Rows.{row_place, row_count, whole_rows}
use Rattle.strips.specs.declared.kind.CellKind.{CellKind}
use Rattle.strips.specs.declared.kind.CellKind.TheVariants.{Gray, Height, Flags, Return}
use Rattle.sheets.specs.declared.window.Rectangle.{Rectangle}
use Rattle.cells.specs.Lattice.{Lattice}
use Rattle.strips.specs.Jobs.{Job}
use Rattle.jobs.specs.Piles.{north_up, framed, topmost}
use Rattle.jobs.specs.Listings.{cells_by, performed, Lists, ListsJob}
use Rattle.jobs.specs.declared.act.Act.{Act}
use Rattle.jobs.specs.declared.line.Line.{Line}

module _ {A B : Type 0} (f : A → B) where
  cond_shown : (b : Bool) (o : Option A) → option_map f (cond b o None) ≡ cond b (option_map f o) None
  cond_shown true o = refl
  cond_shown false o = refl

  -- reading each cell, before or after they lie in rows
  rows_shown : (w : ℕ) (xs : List A) → shown f (whole_rows w xs) ≡ whole_rows w (map f xs)
  rows_shown w xs =
      let n = length xs in
      let by : ℕ → (ℕ → ℕ → Option B) → Sheet B = λ h c. record { width = w; height = h; cell = c } in
      let at : (x y : ℕ) → option_map f (cond (inside w (row_count w n) x y) (slice_get xs (row_place w x y)) None) ≡ cond (inside w (row_count w n) x y) (slice_get (map f xs) (row_place w x y)) None = λ x y. cond_shown (inside w (row_count w n) x y) (slice_get xs (row_place w x y)) ∙ ap (λ (o : Option B). cond (inside w (row_count w n) x y) o None) (sym (slice_get-map f xs (row_place w x y))) in
      ap (by (row_count w n)) (fun_ext (λ x. fun_ext (λ y. at x y)))
      ∙ ap (λ (m : ℕ). by (row_count w m) (λ x y. cond (inside w (row_count w m) x y) (slice_get (map f xs) (row_place w x y)) None)) (sym (length-map xs f))

  north_up_shown : (k : CellKind) (s : Sheet A) → shown f (north_up k s) ≡ north_up k (shown f s)
  north_up_shown Gray s = refl
  north_up_shown Height s = refl
  north_up_shown Flags s = refl
  north_up_shown Return s = refl

  framed_shown : (o : Option Rectangle) (s : Sheet A) → shown f (framed o s) ≡ framed o (shown f s)
  framed_shown None s = refl
  framed_shown (Some r) s =
      let top = framed (Some r) (shown f s) in
      let by : (ℕ → ℕ → Option B) → Sheet B = λ c. record { width = top.width; height = top.height; cell = c } in
      ap by (fun_ext (λ x. fun_ext (λ y. cond_shown (inside r.size.width r.size.height x y) (s.cell (r.left + x) (r.top + y)))))

  topmost_shown : (k : CellKind) (w : ℕ) (o : Option Rectangle) (xs : List A) → shown f (topmost k w o xs) ≡ topmost k w o (map f xs)
  topmost_shown k w o xs = framed_shown o (north_up k (whole_rows w xs)) ∙ ap (framed o) (north_up_shown k (whole_rows w xs) ∙ ap (north_up k) (rows_shown w xs))

-- values that mean what the words do, in one pile
pub topmost_same : {K C : Type 0} (f : K → C) (g : ℕ → C) (k : CellKind) (w : ℕ) (o : Option Rectangle) (xs : List K) (raws : List ℕ) → map f xs ≡ map g raws → shown f (topmost k w o xs) ≡ shown g (topmost k w o raws)
topmost_same f g k w o xs raws e = topmost_shown f k w o xs ∙ ap (topmost k w o) e ∙ sym (topmost_shown g k w o raws)

-- the listing of the pile is that of the job
pub lists_pile : {K C : Type 0} (k : Lattice C) (f : K → C) (reads : ℕ → Option K) (g : K → ℕ) (xs : List Act) (j : Job) (s : Sheet K) (cs : List K) (ls : List Line) →
    map f cs ≡ map (cells_by k f reads) j.raws → s ≡ topmost j.kind j.width j.window cs → Lists k f g j.kind xs s ls → ListsJob k f reads g xs j ls
lists_pile {C = C} k f reads g xs j s cs ls same whole here =
    λ named names. here named names ∙ ap (λ (t : Sheet C). performed k named j.kind xs t) (ap (shown f) whole ∙ topmost_same f (cells_by k f reads) j.kind j.width j.window cs j.raws same)
