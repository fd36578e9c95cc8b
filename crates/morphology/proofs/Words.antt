-- Words of openings and closings: which of four sheets each gives.
use Rattle.std.proofs.Common.{◌≡◌, Bool, true, false, cond, List, [], ◌∷◌, sym, refl, ap, ◌∙◌, subst, inl, inr}
use Rattle.masks.specs.Points.{Among}
use Rattle.morphology.specs.declared.standing.Sort.{Sort}
use Rattle.morphology.specs.declared.standing.Sort.TheVariants.{Opening, Closing}
use Rattle.morphology.specs.declared.standing.Standing.TheVariants.{Once, Twice, Thrice}
use Rattle.morphology.specs.Standing.{other, named}
use Rattle.morphology.specs.FourSheets.{same, last, mixed, by_ends, outcome, four}

-- a word done letter by letter
abbrev pub through : {S : Type 0} → (Sort → S → S) → List Sort → S → S
through by [] f = f
through by (a ∷ bs) f = through by bs (by a f)

module _ {S : Type 0} (by : Sort → S → S) (twice : (a : Sort) (f : S) → by a (by a f) ≡ by a f)
    (again : (a : Sort) (f : S) → by (other a) (by a (by (other a) (by a f))) ≡ by (other a) (by a f)) where
  -- one letter more of the first sort
  repeated : (a : Sort) (b mix : Bool) (f : S) → named by (cond b (cond mix (Thrice a) (Once a)) (Twice a)) (by a f) ≡ named by (cond b (cond mix (Thrice a) (Once a)) (Twice a)) f
  repeated a true true f = ap (λ g. by a (by (other a) g)) (twice a f)
  repeated a true false f = twice a f
  repeated a false mix f = ap (by (other a)) (twice a f)

  -- one letter more of the other sort
  crossed : (a z : Sort) (mix : Bool) (f : S) → named by (by_ends (other a) z mix) (by a f) ≡ named by (by_ends a z true) f
  crossed Opening Opening mix f = refl
  crossed Opening Closing false f = refl
  crossed Opening Closing true f = again Opening f
  crossed Closing Closing mix f = refl
  crossed Closing Opening false f = refl
  crossed Closing Opening true f = again Closing f

  finished : (a : Sort) (bs : List Sort) (f : S) → through by bs (by a f) ≡ named by (by_ends a (last a bs) (mixed a bs)) f
  finished Opening [] f = refl
  finished Closing [] f = refl
  finished Opening (Opening ∷ bs) f = finished Opening bs (by Opening f) ∙ repeated Opening (same Opening (last Opening bs)) (mixed Opening bs) f
  finished Closing (Closing ∷ bs) f = finished Closing bs (by Closing f) ∙ repeated Closing (same Closing (last Closing bs)) (mixed Closing bs) f
  finished Opening (Closing ∷ bs) f = finished Closing bs (by Opening f) ∙ crossed Opening (last Closing bs) (mixed Closing bs) f
  finished Closing (Opening ∷ bs) f = finished Opening bs (by Closing f) ∙ crossed Closing (last Opening bs) (mixed Opening bs) f

  pub through_outcome : (bs : List Sort) (f : S) → through by bs f ≡ outcome by bs f
  through_outcome [] f = refl
  through_outcome (a ∷ bs) f = finished a bs f

  ends_among : (a z : Sort) (mix : Bool) (f : S) → Among (four by a f) (named by (by_ends a z mix) f)
  ends_among Opening Closing mix f = inr (inr (inl refl))
  ends_among Closing Opening mix f = inr (inr (inl refl))
  ends_among Opening Opening false f = inr (inl refl)
  ends_among Closing Closing false f = inr (inl refl)
  ends_among Opening Opening true f = inr (inr (inr (inl refl)))
  ends_among Closing Closing true f = inr (inr (inr (inl refl)))

  pub through_among : (a : Sort) (bs : List Sort) (f : S) → Among (four by a f) (through by bs (by a f))
  through_among a bs f = subst (Among (four by a f)) (sym (finished a bs f)) (ends_among a (last a bs) (mixed a bs) f)
