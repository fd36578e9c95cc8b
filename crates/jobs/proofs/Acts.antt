-- A run of points is one act.
use Rattle.std.proofs.Common.{◌≡◌, ℕ, List, [], ◌∷◌, ◌++◌, Option, Some, None, Result, Ok, Err, refl, sym, ap, ◌∙◌, subst, append_assoc}
use Rattle.std.specs.Prelude.{MatchResult, IsErrAnd}
use Rattle.masks.specs.Rows.{marked, Drawn}
use Rattle.masks.specs.Faults.{refused}
use Rattle.masks.specs.declared.mask.Mask.{Mask}
use Rattle.masks.specs.declared.point.Point.{Point}
use Rattle.masks.specs.declared.fault.MaskFault.{MaskFault}
use Rattle.jobs.specs.Acts.{blamed, laid, act_by, act_of, run_then, AlikeAct, Alike, EndsRun}
use Rattle.jobs.specs.Masks.{drawn}
use Rattle.jobs.specs.declared.fault.PointsFault.{PointsFault}
use Rattle.jobs.specs.declared.act.Act.{Act}
use Rattle.jobs.specs.declared.act.Act.TheVariants.{Run}
use Rattle.jobs.proofs.Drawings.{drawn_all, same_marks, mask_drawn}

pub laid_alike : (w : ℕ) (ps : List Point) (m : Mask) → refused ps ≡ None → Drawn m.rows ps → AlikeAct (Run (Ok m)) (act_of w ps)
laid_alike w ps m e d =
    let one = mask_drawn ps e in
    subst (λ (o : Option MaskFault). AlikeAct (Run (Ok m)) (act_by w ps o)) (sym e)
    (subst (λ (o : Option Mask). AlikeAct (Run (Ok m)) (laid w o)) (sym one.1)
    (same_marks m.rows (drawn ps) ps d (drawn_all ps e) ∙ sym (ap marked one.2)))

-- a mask, or its refusal with the word that is to blame, is what comes of the run
pub mask_alike : {P : MaskFault → PointsFault → Type 0} (w : ℕ) (ps : List Point) (r : Result Mask MaskFault) (q : Result Mask PointsFault) → ((f : MaskFault) (e : PointsFault) → P f e → e ≡ blamed w f)
    → ((m : Mask) → r ≡ Ok m → (refused ps ≡ None) × Drawn m.rows ps) → ((f : MaskFault) → r ≡ Err f → refused ps ≡ Some f) → MatchResult r (λ m. q ≡ Ok m) (λ f. IsErrAnd q (λ e. P f e)) → AlikeAct (Run q) (act_of w ps)
mask_alike w ps (Ok m) (Ok n) told ok err h =
    let same : m ≡ n = cc in
    subst (λ (x : Mask). AlikeAct (Run (Ok x)) (act_of w ps)) same (laid_alike w ps m (ok m refl).0 (ok m refl).1)
mask_alike w ps (Ok m) (Err e) told ok err h = absurd cc
mask_alike w ps (Err f) (Ok n) told ok err h = absurd h
mask_alike w ps (Err f) (Err e) told ok err h = rw (err f refl, told f e h) refl

-- what is closed leads to the same acts
pub closes_alike : (w : ℕ) (ps : List Point) (old new more rest all : List Act) → EndsRun w ps old new → ((xs : List Act) → Alike xs (run_then w ps rest) → Alike (old ++ xs) all) → Alike more rest → Alike (new ++ more) all
closes_alike w [] old new more rest all c leads m = subst (λ (xs : List Act). Alike (xs ++ more) all) (sym c) (leads more m)
closes_alike w (p ∷ ps) old new more rest all c leads m =
    subst (λ (xs : List Act). Alike (xs ++ more) all) (sym c.2)
    (subst (λ (xs : List Act). Alike xs all) (sym (append_assoc old (c.0 ∷ []) more)) (leads (c.0 ∷ more) (c.1, m)))
