-- A filter of two passes: the second goes ahead exactly where the first did.
use Rattle.std.proofs.Common.{◌≡◌, ℕ, ◌+◌, ◌*◌, ◌^◌, ◌<◌, ◌≤◌, Bool, true, false, cond, ◌&&◌, List, length, ◌+ℤ◌, ◌-ℤ◌, Some, Ok, Err, Option, Result, sym, refl, ap, ◌∙◌, subst, ap₂, arith}
use Rattle.std.proofs.lemmas.Bool.Decides.{nat_tests}
use Rattle.cells.specs.Lattice.{Lattice, dual}
use Rattle.masks.specs.Cost.{filter_picks}
use Rattle.masks.specs.declared.mask.Mask.{Mask}
use Rattle.masks.proofs.CostBounds.{filter_picks_few}
use Rattle.sheets.specs.Sheet.{Sheet}
use Rattle.morphology.specs.Calls.{State, filtered, picks, verdict, sheet_by, answered_by, answered, after}
use Rattle.morphology.specs.Filters.{points_of}
use Rattle.morphology.specs.Refusals.{fits, sized, by_mask, judged}
use Rattle.morphology.specs.declared.call.Call.TheVariants.{Apply}
use Rattle.morphology.specs.declared.call.Filter.{Filter}
use Rattle.morphology.specs.declared.call.Filter.TheVariants.{Erode, Dilate, Open, Close}
use Rattle.morphology.specs.declared.refusal.Refusal.{Refusal}
use Rattle.morphology.specs.declared.refusal.Refusal.TheVariants.{WrongSize}
use Rattle.morphology.proofs.Gathers.{gathered_width, gathered_height}
use Rattle.filters.specs.Calls.{WhereRefused, Filtered}
use Rattle.worksheets.specs.declared.worksheet.Worksheet.{Worksheet}
use Rattle.worksheets.specs.Performed.{state, under, Performed}

-- a sheet that is filtered is not too large for its picks to be counted
fits_few : (n : ℕ) → fits n ≡ true → n ≤ 2048
fits_few n e = grind (arith, nat_tests)

both_true : (a b : Bool) → (a && b) ≡ true → (a ≡ true) × (b ≡ true)
both_true true b e = (refl, e)
both_true false b e = absurd (let z : ◌≡◌ {A = ℕ} 0 1 = cc in omega arith)

pub judged_few : (b : Bool) (w h : ℕ) (v : Result Mask Refusal) (m : Mask) → (fits w && fits h) ≡ b → cond b v (Err (WrongSize (sized w h))) ≡ Ok m → filter_picks m.rows w h < 2 ^ 40
judged_few true w h v m e o =
    let s = both_true (fits w) (fits h) e in
    filter_picks_few m.rows w h (fits_few w s.0) (fits_few h s.1)
judged_few false w h v m e o = absurd (let z : ◌≡◌ {A = ℕ} 0 1 = cc in omega arith)

-- what a verdict is, from the answer
module _ (q : Filter) (w h : ℕ) where
  ok_mask : (v : Result Mask Refusal) (a : ℕ) → Ok a ≡ answered_by q v w h → (m : Mask) × (v ≡ Ok m) × (a ≡ picks q m w h)
  ok_mask (Ok m) a e = (m, refl, cc)
  ok_mask (Err r) a e = absurd (let z : ◌≡◌ {A = ℕ} 0 1 = cc in omega arith)

-- a filter `both` that is the filter `one`, and then the filter `two`
pub record Halves (one two both : Filter) : Type 1 where
  pub sheets : {C : Type 0} (k : Lattice C) (m : Mask) (g : Sheet C) → filtered k both m g ≡ filtered k two m (filtered k one m g)
  pub costs : (m : Mask) (w h : ℕ) → picks both m w h ≡ picks one m w h + picks two m w h
  pub width : {C : Type 0} (k : Lattice C) (m : Mask) (g : Sheet C) → (filtered k one m g).width ≡ g.width
  pub height : {C : Type 0} (k : Lattice C) (m : Mask) (g : Sheet C) → (filtered k one m g).height ≡ g.height
  pub one_picks : (m : Mask) (w h : ℕ) → picks one m w h ≡ filter_picks m.rows w h
  pub two_picks : (m : Mask) (w h : ℕ) → picks two m w h ≡ filter_picks m.rows w h

-- a filter of a holder under a mask, told as one of the worksheet on which that mask lies
pub one_pass : {K C S : Type 0} {k : Lattice C} {f : K → C} {sheet : S → Sheet K} {q : Filter} {m : Mask} {h h' : S} {t t' : List K} {r : Result ℕ Refusal} →
    Filtered k f sheet q m h h' t t' r → Performed k f sheet q (under m h) (under m h') t t' r
one_pass {m = m} F = record {
  answer = F.answer;
  after = ap (λ g. record { sheet = g; mask = Some m }) F.after;
  refused = F.refused;
  table = F.table;
}

double : (n : ℕ) → 2 * n ≡ n + n
double n = omega arith

pub opening_halves : Halves Erode Dilate Open
opening_halves = record {
  sheets = λ k m g. refl;
  costs = λ m w h. double (filter_picks m.rows w h);
  width = λ k m g. gathered_width k ◌+ℤ◌ (points_of m) g;
  height = λ k m g. gathered_height k ◌+ℤ◌ (points_of m) g;
  one_picks = λ m w h. refl;
  two_picks = λ m w h. refl;
}

pub closing_halves : Halves Dilate Erode Close
closing_halves = record {
  sheets = λ k m g. refl;
  costs = λ m w h. double (filter_picks m.rows w h);
  width = λ k m g. gathered_width (dual k) ◌-ℤ◌ (points_of m) g;
  height = λ k m g. gathered_height (dual k) ◌-ℤ◌ (points_of m) g;
  one_picks = λ m w h. refl;
  two_picks = λ m w h. refl;
}

module _ {one two both : Filter} (H : Halves one two both) {C : Type 0} (k : Lattice C) where
  -- the first pass leaves the size, so the verdict on the second is the same
  same_judged : (v : Result Mask Refusal) (g : Sheet C) (o : Option Mask) (n : ℕ) →
      judged (sheet_by k one v g).width (sheet_by k one v g).height o n ≡ judged g.width g.height o n
  same_judged (Ok m) g o n = ap₂ (λ w h. judged w h o n) (H.width k m g) (H.height k m g)
  same_judged (Err r) g o n = refl

  same_verdict : (s : State C) (n : ℕ) → verdict (after k (Apply one n) s) n ≡ verdict s n
  same_verdict s n = same_judged (verdict s n) s.sheet s.mask n

  same_answer : (v : Result Mask Refusal) (g : Sheet C) → answered_by two v (sheet_by k one v g).width (sheet_by k one v g).height ≡ answered_by two v g.width g.height
  same_answer (Ok m) g = ap₂ (λ w h. Ok (picks two m w h)) (H.width k m g) (H.height k m g)
  same_answer (Err r) g = refl

  by_halves : (v : Result Mask Refusal) (g : Sheet C) → sheet_by k two v (sheet_by k one v g) ≡ sheet_by k both v g
  by_halves (Ok m) g = sym (H.sheets k m g)
  by_halves (Err r) g = refl

  two_passes : (s : State C) (n : ℕ) → after k (Apply two n) (after k (Apply one n) s) ≡ after k (Apply both n) s
  two_passes s n =
      ap (λ v. record { sheet = sheet_by k two v (sheet_by k one (verdict s n) s.sheet); mask = s.mask }) (same_verdict s n)
      ∙ ap (λ g. record { sheet = g; mask = s.mask }) (by_halves (verdict s n) s.sheet)

  second_answer : (s : State C) (n : ℕ) → answered two n (after k (Apply one n) s) ≡ answered_by two (verdict s n) s.sheet.width s.sheet.height
  second_answer s n =
      ap (λ v. answered_by two v (sheet_by k one (verdict s n) s.sheet).width (sheet_by k one (verdict s n) s.sheet).height) (same_verdict s n)
      ∙ same_answer (verdict s n) s.sheet

module _ {one two both : Filter} (H : Halves one two both) {K C S : Type 0} {k : Lattice C} {f : K → C} {sheet : S → Sheet K} {w w1 : Worksheet S} {t t1 : List K} where
  module _ {a : ℕ} (P : Performed k f sheet one w w1 t t1 (Ok a)) where
    first_mask : (m : Mask) × (verdict (state f sheet w) (length t) ≡ Ok m) × (a ≡ picks one m (sheet w.holder).width (sheet w.holder).height)
    first_mask = ok_mask one (sheet w.holder).width (sheet w.holder).height (verdict (state f sheet w) (length t)) a P.answer

    second_answered : answered two (length t1) (state f sheet w1) ≡ answered_by two (verdict (state f sheet w) (length t)) (sheet w.holder).width (sheet w.holder).height
    second_answered =
        ap₂ (λ n s. answered two n s) P.table P.after
        ∙ second_answer H k (state f sheet w) (length t)

    -- where the first pass goes ahead, so does the second
    pub second_goes : {w2 : Worksheet S} {t2 : List K} {r : Refusal} → Performed k f sheet two w1 w2 t1 t2 (Err r) → ⊥
    second_goes {r} Q =
        let m = first_mask.0 in
        let e : Err r ≡ Ok (picks two m (sheet w.holder).width (sheet w.holder).height) =
        Q.answer ∙ second_answered ∙ ap (λ v. answered_by two v (sheet w.holder).width (sheet w.holder).height) first_mask.1 in
        let z : ◌≡◌ {A = ℕ} 0 1 = cc in
        omega arith

    module _ {w2 : Worksheet S} {t2 : List K} {b : ℕ} (Q : Performed k f sheet two w1 w2 t1 t2 (Ok b)) where
      second_picks : b ≡ picks two first_mask.0 (sheet w.holder).width (sheet w.holder).height
      second_picks =
          let e : Ok b ≡ Ok (picks two first_mask.0 (sheet w.holder).width (sheet w.holder).height) =
          Q.answer ∙ second_answered ∙ ap (λ v. answered_by two v (sheet w.holder).width (sheet w.holder).height) first_mask.1 in
          cc

      pub sum_few : a + b < 2 ^ 64
      sum_few =
          let m = first_mask.0 in
          let g = sheet w.holder in
          let l = judged_few (fits g.width && fits g.height) g.width g.height (by_mask g.width w.mask (length t)) m refl first_mask.1 in
          let p = first_mask.2 ∙ H.one_picks m g.width g.height in
          let q = second_picks ∙ H.two_picks m g.width g.height in
          omega (arith, l, p, q)

      -- both passes together
      pub both_passes : Performed k f sheet both w w2 t t2 (Ok (a + b))
      both_passes =
          let m = first_mask.0 in
          let g = sheet w.holder in
          record {
            answer = ap (λ n. Ok n) (ap₂ (λ (x y : ℕ). x + y) first_mask.2 second_picks ∙ sym (H.costs m g.width g.height))
                ∙ sym (ap (λ v. answered_by both v g.width g.height) first_mask.1);
            after = Q.after ∙ ap₂ (λ n s. after k (Apply two n) s) P.table P.after ∙ two_passes H k (state f sheet w) (length t);
            refused = subst (λ v. WhereRefused v ((sheet w2.holder ≡ g) × (t2 ≡ t))) (sym first_mask.1) tt;
            table = Q.table ∙ P.table;
          }
