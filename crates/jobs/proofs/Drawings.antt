-- A list of points that is not refused is drawn: its rows have just its points.
use Rattle.std.proofs.Common.{◌≡◌, ℕ, ◌<◌, ◌≤◌, Bool, true, false, List, [], ◌∷◌, ◌++◌, length, replicate, ℤ, pos, ◌+ℤ◌, fold, unsigned_abs, Some, None, sym, refl, ◌∙◌, subst, arith, append_assoc, negsuc}
use mathlib.Core.Path.{fun_ext}
use Rattle.std.specs.List.{AllByRecursion, prefix_len}
use Rattle.std.proofs.lemmas.Int.{ints}
use Rattle.std.proofs.lemmas.List.{length-set, append-nil}
use Rattle.std.proofs.lemmas.Bool.{and_parts}
use Rattle.std.proofs.lemmas.Bool.Decides.{nat_tests}
use Rattle.masks.specs.Points.{near, near_offset, point_at}
use Rattle.masks.specs.Rows.{marked, points, Drawn}
use Rattle.masks.specs.Faults.{refused}
use Rattle.masks.specs.declared.mask.Mask.{Mask}
use Rattle.masks.specs.declared.point.Point.{Point}
use Rattle.masks.proofs.Lists.{leading_all}
use Rattle.masks.proofs.Grids.{drawn_none, drawn_more, drawn_some, holds_point_at}
use Rattle.jobs.specs.Masks.{with_point, drawn, mask_by, mask_of}

same_test : (a b : Bool) → (a ≡ true → b ≡ true) → (b ≡ true → a ≡ true) → a ≡ b
same_test true b f g = sym (f refl)
same_test false true f g = g refl
same_test false false f g = refl

near_place : (z : ℤ) → near_offset z ≡ true → (unsigned_abs (z +ℤ pos 15) < 31) × (z +ℤ pos 15 ≡ pos (unsigned_abs (z +ℤ pos 15)))
near_place (pos n) h = (grind (arith, ints, nat_tests), refl)
near_place (negsuc n) h = grind (arith, ints, nat_tests)

folded : (rows : List ℕ) (qs ps : List Point) → length rows ≡ 31 → AllByRecursion (λ p. near p ≡ true) ps → Drawn rows qs → Drawn (fold with_point rows ps) (qs ++ ps)
folded rows qs [] long h d = subst (Drawn rows) (sym (append-nil qs)) d
folded rows qs (p ∷ ps) long h d =
    let both = and_parts (near_offset p.u) (near_offset p.v) h.0 in
    let u = near_place p.u both.0 in
    let v = near_place p.v both.1 in
    let one : Drawn (with_point rows p) (qs ++ p ∷ []) = drawn_more rows qs p (unsigned_abs (p.u +ℤ pos 15)) (unsigned_abs (p.v +ℤ pos 15)) long u.0 v.0 u.1 v.1 d in
    let more = folded (with_point rows p) (qs ++ p ∷ []) ps (simp length-set long) h.1 one in
    subst (Drawn (fold with_point (with_point rows p) ps)) (append_assoc qs (p ∷ []) ps) more

not_short : (ps : List Point) → refused ps ≡ None → (length ps ≡ 0 → ⊥) × (length ps ≤ prefix_len near ps)
not_short ps e = grind (arith, nat_tests)

all_near : (ps : List Point) → refused ps ≡ None → AllByRecursion (λ p. near p ≡ true) ps
all_near ps e = leading_all near ps (not_short ps e).1

pub drawn_all : (ps : List Point) → refused ps ≡ None → Drawn (drawn ps) ps
unfolding drawn
drawn_all ps e = folded (replicate 31 0) [] ps refl (all_near ps e) drawn_none

marked_same : (xs ys : List ℕ) (ps : List Point) → Drawn xs ps → Drawn ys ps → (c r : ℕ) → marked xs c r ≡ true → marked ys c r ≡ true
marked_same xs ys ps d e c r h =
    let p = point_at c r in
    sym (holds_point_at ys c r) ∙ (e p).1 ((d p).0 (holds_point_at xs c r ∙ h))

-- rows with the points of one list have the same marks
pub same_marks : (xs ys : List ℕ) (ps : List Point) → Drawn xs ps → Drawn ys ps → marked xs ≡ marked ys
same_marks xs ys ps d e = fun_ext (λ c. fun_ext (λ r. same_test (marked xs c r) (marked ys c r) (marked_same xs ys ps d e c r) (marked_same ys xs ps e d c r)))

by_points : (rows : List ℕ) (qs : List Point) (e : points rows 31 ≡ qs) → (points rows 31 ≡ [] → ⊥) → (m : Mask) × (mask_by rows qs e ≡ Some m) × (m.rows ≡ rows)
by_points rows [] e n = absurd (n e)
by_points rows (q ∷ qs) e n = (_, refl, refl)

-- points that are not refused have a mask, with just these points
pub mask_drawn : (ps : List Point) → refused ps ≡ None → (m : Mask) × (mask_of ps ≡ Some m) × (m.rows ≡ drawn ps)
mask_drawn ps e = by_points (drawn ps) (points (drawn ps) 31) refl (drawn_some (drawn ps) ps (drawn_all ps e) (not_short ps e).0)
