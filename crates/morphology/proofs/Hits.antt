-- The example of a find: the one place that is a hit is one, and no other is.
use Rattle.std.proofs.Common.{◌≡◌, ℕ, zero, suc, Bool, true, false, cond, ◌&&◌, T, eqb, ltb, [], ◌∷◌, nat_abs, is_some, None, Option, sym, refl, ap, subst, inl, inr, true≢false, arith, ltb→lt}
use Rattle.cells.specs.Chain.{same_number}
use Rattle.cells.specs.Kinds.{GrayCell, grays}
use Rattle.masks.specs.Points.{origin}
use Rattle.masks.specs.declared.point.Point.{Point}
use Rattle.sheets.specs.Sheet.{Sheet}
use Rattle.morphology.specs.Bounds.{meets}
use Rattle.morphology.specs.Find.{ahead, Complete, Hit, HitList}
use Rattle.morphology.specs.RowSheets.{row, east}
use Rattle.morphology.specs.declared.place.Place.{Place}

abbrev nine : Sheet GrayCell
nine = row (9 ∷ 2 ∷ 9 ∷ [])

abbrev first_place : Place
first_place = record { x = 0; y = 0 }

abbrev HitAt : ℕ → ℕ → Type 0
HitAt x y = Hit grays (origin ∷ []) (east ∷ []) nine x y

-- one point that sees a cell
complete_one : (x y : ℕ) (q : Point) → is_some (ahead nine x y q) ≡ true → Complete nine x y (q ∷ [])
complete_one x y q h p (inl e) = subst (λ r. is_some (ahead nine x y r) ≡ true) (sym e) h
complete_one x y q h p (inr n) = absurd n

first_hit : HitAt 0 0
unfolding meets
first_hit = record {
  on = refl;
  fores = complete_one 0 0 origin refl;
  backs = complete_one 0 0 east refl;
  above = (same_number _ _ refl, λ e. subst (λ n. T (eqb n 9)) (ap (λ c. nat_abs c.number) e) tt);
}

-- a place with a cell is inside
has_inside : (b : Bool) (o : Option GrayCell) → is_some (cond b o None) ≡ true → T b
has_inside true o e = tt
has_inside false o e = true≢false (sym e)

and_left : (a b : Bool) → T (a && b) → T a
and_left true b t = tt
and_left false b t = t

and_right : (a b : Bool) → T (a && b) → T b
and_right true b t = t
and_right false b t = absurd t

only_first : (x y : ℕ) → HitAt x y → record { x = x; y = y } ≡ first_place
unfolding meets
only_first zero zero h = refl
only_first (suc zero) zero h = absurd (subst (λ n. T (eqb n 2)) (ap (λ c. nat_abs c.number) h.above.0) tt)
only_first (suc (suc zero)) zero h = absurd (true≢false (sym (h.backs east (inl refl))))
only_first (suc (suc (suc x))) zero h =
    let l = ltb→lt (suc (suc (suc x))) 3 (and_left (ltb (suc (suc (suc x))) 3) (ltb zero 1) (has_inside _ _ h.on)) in
    absurd (omega (arith, l))
only_first x (suc y) h =
    let l = ltb→lt (suc y) 1 (and_right (ltb x 3) (ltb (suc y) 1) (has_inside _ _ h.on)) in
    absurd (omega (arith, l))

pub found : HitList grays (origin ∷ []) (east ∷ []) nine (first_place ∷ [])
found = record {
  hits = λ p. (
    λ i. elim i [ inl e ↦ subst (λ q. HitAt q.x q.y) (sym e) first_hit | inr n ↦ absurd n ],
    λ h. inl (only_first p.x p.y h),
  );
  order = (tt, tt);
}
