-- The fore mask goes ahead, and the back mask decides; what is left of the sheet's size is that of the holder.
use Rattle.std.proofs.Common.{◌≡◌, ℕ, ◌+◌, length, Ok, Err, sym, ◌∙◌, subst, ap₂, rules}
use Rattle.sheets.specs.Sheet.{shown}
use Rattle.morphology.specs.Filters.{points_of}
use Rattle.morphology.specs.Refusals.{judged_find}
use Rattle.morphology.specs.Find.{find_picks}
use Rattle.filters.specs.Find.{Found}
use Rattle.filters.proofs.Verdicts.{plan_picks, find_judged}
use Rattle.filters.proofs.find.find.Goals as goal

pub returns-in_err-admit-2-clause-found : goal.returns-in_err-admit-2-clause-found
returns-in_err-admit-2-clause-found g c =
    let k = g.H.Cell.Kind.lattice in
    let s = g.H.Holder.sheet c.args.holder.now in
    let fore = c.args.fore.now in
    let back = c.args.back.now in
    let n = length c.args.fore_table.now in
    let l = length c.args.back_table.now in
    let places = c.args.places.now in
    let w = c.size-size.result.width in
    let h = c.size-size.result.height in
    let a = c.in_ok-admit.ensures.verdict fore (points_of fore) c.of-fore_plan.ensures in
    let b = c.in_err-admit-2.ensures.verdict back (points_of back) c.of-back_plan.ensures in
    let v : judged_find s.width s.height fore n back l ≡ Err c.in_err-admit-2.field-0.0 =
    sym (ap₂ (λ (i j : ℕ). judged_find i j fore n back l) c.size-size.ensures.width c.size-size.ensures.height) ∙ find_judged w h n l fore back _ a b in
    subst (λ v. Found k fore back (shown g.H.Cell.Kind.means s) v places places c.from_residual-in_err-admit-2.result) (sym v) (search rules)

pub returns-clause-found : goal.returns-clause-found
returns-clause-found g c =
    let k = g.H.Cell.Kind.lattice in
    let s = g.H.Holder.sheet c.args.holder.now in
    let fore = c.args.fore.now in
    let back = c.args.back.now in
    let n = length c.args.fore_table.now in
    let l = length c.args.back_table.now in
    let places = c.args.places.now in
    let p = c.of-fore_plan.result in
    let q = c.of-back_plan.result in
    let w = c.size-size.result.width in
    let h = c.size-size.result.height in
    let ew = c.size-size.ensures.width in
    let eh = c.size-size.ensures.height in
    let a = c.in_ok-admit.ensures.verdict fore (points_of fore) c.of-fore_plan.ensures in
    let b = c.in_ok-admit-2.ensures.verdict back (points_of back) c.of-back_plan.ensures in
    let v : judged_find s.width s.height fore n back l ≡ Ok back =
    sym (ap₂ (λ (i j : ℕ). judged_find i j fore n back l) ew eh) ∙ find_judged w h n l fore back _ a b in
    let H = c.scan.ensures.hits (points_of fore) (points_of back) c.of-fore_plan.ensures.points c.of-back_plan.ensures.points in
    let picks : c.scan.result.1 ≡ find_picks fore back s.width s.height =
    c.scan.ensures.picks
    ∙ ap₂ (λ (i j : ℕ). i + j) (plan_picks fore.rows (points_of fore) p w h c.of-fore_plan.ensures) (plan_picks back.rows (points_of back) q w h c.of-back_plan.ensures)
    ∙ ap₂ (λ (i j : ℕ). find_picks fore back i j) ew eh in
    subst (λ v. Found k fore back (shown g.H.Cell.Kind.means s) v places c.scan.new.places (Ok c.scan.result)) (sym v)
    (H.0, H.1, ap₂ (λ (i j : ℕ). Ok (i, j)) H.2 picks, H.3)
