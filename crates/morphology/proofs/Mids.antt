-- A mid lies between opening and closing, and there is one.
use Rattle.std.proofs.Common.{◌≡◌, ℕ, List, refl, ℤ, ◌+ℤ◌, ◌≤ℤ◌, Some, None, Option, sym, ap, ◌∙◌, subst, ap₂, arith}
use Rattle.std.specs.Option.{option_map}
use Rattle.std.proofs.lemmas.Int.{ints}
use Rattle.cells.specs.Lattice.{Lattice, Under}
use Rattle.cells.specs.Levels.{OrderedBy, half_down}
use Rattle.cells.proofs.Halves.{half_low, half_high}
use Rattle.masks.specs.declared.point.Point.{Point}
use Rattle.sheets.specs.Sheet.{Sheet, shown}
use Rattle.sheets.proofs.Equal.{same_sheet}
use Rattle.morphology.specs.Filters.{opened, closed}
use Rattle.morphology.specs.Mid.{mid, Halfway, HalfwayAt, MidLaws}
use Rattle.morphology.specs.Order.{UnderAt, UnderSheet, both}
use Rattle.morphology.proofs.Cells.{under_anti}
use Rattle.morphology.proofs.Sheets.{openings, ordered}

-- half of the sum of two numbers lies between them
half_between : (a b z : ℤ) → z ≡ a +ℤ b → a ≤ℤ b → (a ≤ℤ half_down z) × (half_down z ≤ℤ b)
half_between a b z e h =
    let low = half_low z in
    let high = half_high z in
    (omega (arith, ints), omega (arith, ints))

module _ {K C : Type 0} (k : Lattice C) (f : K → C) (level : K → ℤ) (O : OrderedBy k f level) where
  -- a value with half the sum of two levels lies between the two cells
  pub halfway_between : (a b v : K) → level v ≡ half_down (level a +ℤ level b) → Under k (f a) (f b) → Under k (f a) (f v) × Under k (f v) (f b)
  halfway_between a b v e u =
      let h = half_between (level a) (level b) (level a +ℤ level b) refl ((O a b).0 u) in (
        (O a v).1 (subst (λ (z : ℤ). level a ≤ℤ z) (sym e) h.0),
        (O v b).1 (subst (λ (z : ℤ). z ≤ℤ level b) (sym e) h.1),
      )

  -- values of one cell have one level, and values of one level one cell
  same_level : (a b : K) → f a ≡ f b → level a ≡ level b
  same_level a b e =
      let l = (O a b).0 (subst (λ c. Under k (f a) c) e (k.meet_idem (f a))) in
      let m = (O b a).0 (subst (λ c. Under k (f b) c) (sym e) (k.meet_idem (f b))) in
      omega (arith, ints, l, m)

  same_cell : (a b : K) → level a ≡ level b → f a ≡ f b
  same_cell a b e =
      let r : level a ≤ℤ level a = omega (arith, ints) in
      under_anti k (f a) (f b)
      ((O a b).1 (subst (λ (z : ℤ). level a ≤ℤ z) e r))
      ((O b a).1 (subst (λ (z : ℤ). z ≤ℤ level a) e r))

  one_halfway : (o c : C) (v w : K) → Halfway f level o c v → Halfway f level o c w → f v ≡ f w
  one_halfway o c v w h g =
      same_cell v w
      (h.4 ∙ ap₂ (λ (x y : ℤ). half_down (x +ℤ y)) (same_level h.0 g.0 (h.2 ∙ sym g.2)) (same_level h.1 g.1 (h.3 ∙ sym g.3)) ∙ sym g.4)

  one_at : (o c : Option C) (v w : Option K) → HalfwayAt f level o c v → HalfwayAt f level o c w → option_map f v ≡ option_map f w
  one_at None None None None h g = refl
  one_at None None None (Some w) h g = absurd g
  one_at None None (Some v) w h g = absurd h
  one_at None (Some c) v w h g = absurd h
  one_at (Some o) None v w h g = absurd h
  one_at (Some o) (Some c) None w h g = absurd h
  one_at (Some o) (Some c) (Some v) None h g = absurd g
  one_at (Some o) (Some c) (Some v) (Some w) h g = ap Some (one_halfway o c v w h g)

  between_at : (o c : Option C) (v : Option K) → UnderAt k o c → HalfwayAt f level o c v → UnderAt k o (option_map f v) × UnderAt k (option_map f v) c
  between_at None None None u h = (tt, tt)
  between_at None None (Some v) u h = absurd h
  between_at None (Some c) v u h = absurd h
  between_at (Some o) None v u h = absurd h
  between_at (Some o) (Some c) None u h = absurd h
  between_at (Some o) (Some c) (Some v) u h =
      let b = halfway_between h.0 h.1 v h.4 (subst (λ p. Under k (f h.0) p) (sym h.3) (subst (λ p. Under k p c) (sym h.2) u)) in
      (subst (λ p. Under k p (f v)) h.2 b.0, subst (λ p. Under k (f v) p) h.3 b.1)

-- the opening lies under the closing
pub opened_closed : {C : Type 0} (k : Lattice C) (ps : List Point) (s : Sheet C) → UnderSheet k (opened k ps s) (closed k ps s)
opened_closed k ps s = (ordered k).under_next (opened k ps s) s (closed k ps s) ((openings k).opened_under ps s) ((openings k).closed_over ps s)

-- the midway of cells
midway_at : {K C : Type 0} (f : K → C) (level : K → ℤ) (midway : C → C → C) → ((a b v : K) → level v ≡ half_down (level a +ℤ level b) → f v ≡ midway (f a) (f b)) →
    (o c : Option C) (v : Option K) → HalfwayAt f level o c v → option_map f v ≡ both midway o c
midway_at f level midway m None None None h = refl
midway_at f level midway m None None (Some v) h = absurd h
midway_at f level midway m None (Some c) v h = absurd h
midway_at f level midway m (Some o) None v h = absurd h
midway_at f level midway m (Some o) (Some c) None h = absurd h
midway_at f level midway m (Some o) (Some c) (Some v) h = ap Some (m h.0 h.1 v h.4 ∙ ap₂ midway h.2 h.3)

pub mid_laws : {K C : Type 0} (k : Lattice C) (f : K → C) (level : K → ℤ) → MidLaws k f level
mid_laws k f level = record {
  one = λ O ps s t u M N. same_sheet (shown f t) (shown f u) (M.width ∙ sym N.width) (M.height ∙ sym N.height)
      (λ x y. one_at k f level O ((opened k ps s).cell x y) ((closed k ps s).cell x y) (t.cell x y) (u.cell x y) (M.cells x y) (N.cells x y));
  between = λ O ps s t M.
      let u = opened_closed k ps s in
      let wide = (openings k).opened_under ps s in
      let over = (openings k).closed_over ps s in
      let at = λ (x y : ℕ). between_at k f level O ((opened k ps s).cell x y) ((closed k ps s).cell x y) (t.cell x y) (u.cells x y) (M.cells x y) in (
        record { width = wide.width ∙ sym M.width; height = wide.height ∙ sym M.height; cells = λ x y. (at x y).0 },
        record { width = M.width ∙ over.width; height = M.height ∙ over.height; cells = λ x y. (at x y).1 },
      );
  by_midway = λ midway m ps s t M.
      let wide = (openings k).opened_under ps s in
      same_sheet (shown f t) (mid k midway ps s) (M.width ∙ sym wide.width) (M.height ∙ sym wide.height)
      (λ x y. midway_at f level midway m ((opened k ps s).cell x y) ((closed k ps s).cell x y) (t.cell x y) (M.cells x y));
}
