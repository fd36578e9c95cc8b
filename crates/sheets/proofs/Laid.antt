-- Sheets held in a list: reads and writes of the list are reads and puts of the sheet.
use Rattle.std.proofs.Common.{◌≡◌, ℕ, ◌<◌, ◌≤◌, ◌≢◌, List, length, get_or, set, Some, refl, ap, ◌∙◌, inl, inr, arith, length-set}
use Rattle.std.specs.List.{slice_get}
use Rattle.std.proofs.lemmas.Option.{slice_get-get_or, slice_get_past}
use Rattle.std.proofs.lemmas.Grind.{common_steps}
use Rattle.std.proofs.lemmas.Bool.{cases_eq}
use Rattle.std.proofs.lemmas.Bool.Decides.{nat_tests}
use Rattle.sheets.specs.Sheet.{Sheet, put_at, sheet_of, if_room, held, spot}
use Rattle.sheets.specs.Layout.{Apart}
use Rattle.sheets.proofs.Equal.{same_sheet}

nth_same : {C : Type 0} (cells : List C) (i : ℕ) (v : C) → i < length cells → slice_get (set cells i v) i ≡ Some v
nth_same cells i v h = grind (arith, common_steps, slice_get-get_or (set cells i v) i v)

nth_other : {C : Type 0} (cells : List C) (i k : ℕ) (v : C) → k ≢ i → slice_get (set cells i v) k ≡ slice_get cells k
nth_other cells i k v h =
    grind (arith, common_steps, slice_get-get_or (set cells i v) k v, slice_get-get_or cells k v, slice_get_past (set cells i v) k, slice_get_past cells k)

-- where anything is shown there is room, and the extent is the asked one
in_room : (r n w x : ℕ) → x < if_room r n w → (x < w) × (r ≤ n)
in_room r n w x h = (grind (arith, nat_tests), grind (arith, nat_tests))

-- an index that was found is that of a place inside
found : {C : Type 0} (s : Sheet C) (p : ℕ → ℕ → ℕ) (x y i : ℕ) → Some i ≡ spot s p x y → (x < s.width) × (y < s.height) × (i ≡ p x y)
found s p x y i e = (grind (arith, nat_tests, e), grind (arith, nat_tests, e), grind (arith, nat_tests, e))

-- the cell at one index is replaced, so the one at its place is, and no other
put_cell : {C : Type 0} (w h : ℕ) (p : ℕ → ℕ → ℕ) (cells : List C) (x y : ℕ) (c : C) →
    Apart w h p → x < w → y < h → p x y < length cells →
    (i j : ℕ) → (sheet_of w h (λ a b. slice_get (set cells (p x y) c) (p a b))).cell i j ≡ (put_at (sheet_of w h (λ a b. slice_get cells (p a b))) x y c).cell i j
put_cell w h p cells x y c apart a b l i j =
    elim (cases_eq (p i j) (p x y)) [
      | inl e ↦
          let d : i < w → j < h → (i ≡ x) × (j ≡ y) = λ k m. apart i j x y k m a b e in
          let s : slice_get (set cells (p x y) c) (p i j) ≡ Some c = ap (slice_get (set cells (p x y) c)) e ∙ nth_same cells (p x y) c l in
          let o : slice_get cells (p i j) ≡ Some (get_or cells (p x y) c) = ap (slice_get cells) e ∙ slice_get-get_or cells (p x y) c l in
          grind (arith, nat_tests, d, s, o)
      | inr e ↦
          let d : (i ≡ x) → (j ≡ y) → ⊥ = λ u v. e (ap (λ (n : ℕ). p n j) u ∙ ap (p x) v) in
          let s = nth_other cells (p x y) (p i j) c e in
          grind (arith, nat_tests, s, d)
    ]

pub held_put : {C : Type 0} (r w h : ℕ) (p : ℕ → ℕ → ℕ) (cells : List C) (x y i : ℕ) (c : C) →
    Apart w h p → Some i ≡ spot (held r w h p cells) p x y → i < length cells →
    held r w h p (set cells i c) ≡ put_at (held r w h p cells) x y c
held_put r w h p cells x y i c apart e l =
    let n = length cells in
    let f = found (held r w h p cells) p x y i e in
    let m : p x y < length cells = rw (← f.2) l in
    let v = if_room r n w in
    let u = if_room r n h in
    let near : Apart v u p = λ a b k o ha hb hk ho. apart a b k o (in_room r n w a ha).0 (in_room r n h b hb).0 (in_room r n w k hk).0 (in_room r n h o ho).0 in
    ap (λ (q : ℕ). sheet_of (if_room r q w) (if_room r q h) (λ a b. slice_get (set cells i c) (p a b))) (length-set cells i c)
    ∙ ap (λ (q : ℕ). sheet_of v u (λ a b. slice_get (set cells q c) (p a b))) f.2
    ∙ same_sheet (sheet_of v u (λ a b. slice_get (set cells (p x y) c) (p a b))) (put_at (held r w h p cells) x y c) refl refl (put_cell v u p cells x y c near f.0 f.1 m)
