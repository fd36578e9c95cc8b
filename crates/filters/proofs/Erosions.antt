-- A sheet all of whose rows are results is the erosion.
use Rattle.std.proofs.Common.{◌≡◌, ℕ, ◌+◌, ◌-◌, ◌<◌, true, false, List, map, ℤ, pos, negsuc, ◌+ℤ◌, ◌⊎◌, is_some, Some, None, Option, sym, refl, ap, ◌∙◌, subst, inl, inr, arith}
use Rattle.std.specs.Option.{option_map}
use Rattle.std.proofs.lemmas.Bool.{cases_lt}
use Rattle.std.proofs.lemmas.Bool.Decides.{nat_tests}
use Rattle.std.proofs.lemmas.Int.{ints}
use Rattle.cells.specs.Lattice.{Lattice, Under}
use Rattle.masks.specs.Points.{Among}
use Rattle.masks.specs.declared.point.Point.{Point}
use Rattle.sheets.specs.Sheet.{Sheet, has, Whole, shown}
use Rattle.sheets.proofs.Equal.{same_sheet}
use Rattle.morphology.specs.Bounds.{meets}
use Rattle.morphology.specs.Filters.{at, seen, eroded}
use Rattle.morphology.proofs.Meets.{Covers, meets_under, under_meets, covers_trans}
use Rattle.morphology.proofs.Gathers.{gathered_width, gathered_height, gathered_cell}
use Rattle.plans.specs.declared.plan.Plan.{Plan}
use Rattle.plans.specs.Plan.{chord_of, point_of, Spells}
use Rattle.filters.specs.Side.{Best}
use Rattle.filters.specs.Line.{place, UnderCell}
use Rattle.filters.specs.Sweep.{Through}
use Rattle.filters.proofs.Bests.{best_same, best_unique}
use Rattle.filters.proofs.Rings.{Mixed}

-- a meet over points is the greatest lower bound of the cells that they lead to
meets_best : {C : Type 0} (k : Lattice C) (look : Point → Option C) (ps : List Point) → Best k (λ a. (p : Point) → Among ps p → Covers k a (look p)) (meets k (map look ps))
meets_best k look ps a = (λ u p i. covers_trans k a _ (look p) u (meets_under k look ps p i), under_meets k look ps a)

-- what a lies under, before and after the cells are read; a place without a cell stands as z
under_covers : {K C : Type 0} (k : Lattice C) (f : K → C) (z a : C) (o : Option K) → UnderCell k f z a o → Covers k a (option_map f o)
under_covers k f z a None u = tt
under_covers k f z a (Some c) u = u

covers_under : {K C : Type 0} (k : Lattice C) (f : K → C) (z a : C) (o : Option K) → (z ≡ k.greatest) ⊎ (is_some (option_map f o) ≡ true) → Covers k a (option_map f o) → UnderCell k f z a o
covers_under k f z a None (inl e) u = subst (Under k a) (sym e) (k.meet_greatest a)
covers_under k f z a None (inr e) u = let no : true ≡ false = sym e in cc
covers_under k f z a (Some c) h u = u

-- a place of a line is a place of the sheet, 15 columns and `above` rows away
place_at : {K C : Type 0} (f : K → C) (s : Sheet K) (above c l : ℕ) (X Y : ℤ) → X +ℤ pos 15 ≡ pos c → Y +ℤ pos above ≡ pos l → option_map f (place s above c l) ≡ at (shown f s) X Y
place_at f s above c l (pos a) (pos b) h m =
    let e : a + 15 ≡ c = omega (arith, ints) in
    let d : b + above ≡ l = omega (arith, ints) in
    let p : c - 15 ≡ a = omega arith in
    let q : l - above ≡ b = omega arith in
    grind (arith, nat_tests, p, q)
place_at f s above c l (pos a) (negsuc b) h m = let d : l < above = omega (arith, ints) in grind (arith, nat_tests)
place_at f s above c l (negsuc a) Y h m = let d : c < 15 = omega (arith, ints) in grind (arith, nat_tests)

module _ {K C : Type 0} (k : Lattice C) (f : K → C) (z : C) (s : Sheet K) (p : Plan) (x y : ℕ) where
  pub point_place : (q j : ℕ) → option_map f (place s p.above ((chord_of p q).column + x + j) (y + (chord_of p q).row)) ≡ seen ◌+ℤ◌ (shown f s) (pos x) (pos y) (point_of p q j)
  point_place q j =
      place_at f s p.above ((chord_of p q).column + x + j) (y + (chord_of p q).row) (pos x +ℤ (point_of p q j).u) (pos y +ℤ (point_of p q j).v) (omega (arith, ints)) (omega (arith, ints))

  -- the chords show what the points lead to
  through_points : (ps : List Point) (a : C) → Spells p ps → Through k f z s p x y a → (pt : Point) → Among ps pt → Covers k a (seen ◌+ℤ◌ (shown f s) (pos x) (pos y) pt)
  through_points ps a P T pt i =
      let o = P.only pt i in
      subst (λ (r : Point). Covers k a (seen ◌+ℤ◌ (shown f s) (pos x) (pos y) r)) (sym o.4)
      (subst (Covers k a) (point_place o.0 o.1) (under_covers k f z a _ (T o.0 o.2 o.1 o.3)))

  points_through : (ps : List Point) (a : C) → Spells p ps → ((pt : Point) → Among ps pt → (z ≡ k.greatest) ⊎ (is_some (seen ◌+ℤ◌ (shown f s) (pos x) (pos y) pt) ≡ true)) →
      ((pt : Point) → Among ps pt → Covers k a (seen ◌+ℤ◌ (shown f s) (pos x) (pos y) pt)) → Through k f z s p x y a
  points_through ps a P some h q m j l =
      let i = P.each q j m l in
      let o = place s p.above ((chord_of p q).column + x + j) (y + (chord_of p q).row) in
      covers_under k f z a o
      (subst (λ (v : Option C). (z ≡ k.greatest) ⊎ (is_some v ≡ true)) (sym (point_place q j)) (some (point_of p q j) i))
      (subst (Covers k a) (sym (point_place q j)) (h (point_of p q j) i))

  -- so the greatest lower bound of what the chords show is the meet over the points
  pub best_meets : (ps : List Point) (m : C) → Spells p ps → ((pt : Point) → Among ps pt → (z ≡ k.greatest) ⊎ (is_some (seen ◌+ℤ◌ (shown f s) (pos x) (pos y) pt) ≡ true)) →
      Best k (Through k f z s p x y) m → m ≡ meets k (map (seen ◌+ℤ◌ (shown f s) (pos x) (pos y)) ps)
  best_meets ps m P some b =
      best_unique k _ _ _ (best_same k _ _ _ (λ c T. through_points ps c P T) (λ c h. points_through ps c P some h) b) (meets_best k (seen ◌+ℤ◌ (shown f s) (pos x) (pos y)) ps)

-- a place with a cell, and one without
there : {K C : Type 0} (f : K → C) (o : Option K) (v : C) → is_some o ≡ true → Some v ≡ option_map (λ _. v) (option_map f o)
there f None v e = let z : true ≡ false = sym e in cc
there f (Some c) v e = refl

nowhere : {K C : Type 0} (f : K → C) (o : Option K) (v : C) → is_some o ≡ false → option_map f o ≡ option_map (λ _. v) (option_map f o)
nowhere f None v e = refl
nowhere f (Some c) v e = cc

pub mixed_eroded : {K C : Type 0} (k : Lattice C) (f : K → C) (p : Plan) (s t : Sheet K) (ps : List Point) → Mixed k f p s.width s t s.height → Whole s → Spells p ps → shown f t ≡ eroded k ps (shown f s)
mixed_eroded k f p s t ps M whole P =
    same_sheet (shown f t) (eroded k ps (shown f s)) (M.width ∙ sym (gathered_width k ◌+ℤ◌ ps (shown f s))) (M.height ∙ sym (gathered_height k ◌+ℤ◌ ps (shown f s))) (λ x y.
    let look = seen ◌+ℤ◌ (shown f s) (pos x) (pos y) in
    let v = meets k (map look ps) in
    let cell = sym (gathered_cell k ◌+ℤ◌ ps (shown f s) x y) in
    elim (cases_lt x s.width) [
      | inl a ↦ elim (cases_lt y s.height) [
        | inl b ↦
            let D = M.done x y a b in
            let on : has s x y ≡ true = whole x y ∙ (grind (arith, nat_tests)) in
            let e : D.0 ≡ v = best_meets k f k.greatest s p x y ps D.0 P (λ pt i. inl refl) D.2 in
            D.1 ∙ ap (λ c. Some c) e ∙ there f (s.cell x y) v on ∙ cell
        | inr b ↦
            let off : has s x y ≡ false = whole x y ∙ (grind (arith, nat_tests)) in
            ap (option_map f) (M.left x y b) ∙ nowhere f (s.cell x y) v off ∙ cell
      ]
      | inr a ↦
          let off : has s x y ≡ false = whole x y ∙ (grind (arith, nat_tests)) in
          ap (option_map f) (M.beside x y a) ∙ nowhere f (s.cell x y) v off ∙ cell
    ])
