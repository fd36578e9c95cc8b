-- What the steps of a job are taken for: an unbroken run of points is one mask.
--     blamed w f         the refusal f of a mask whose first point is word w
--     act_of w ps        what comes of the run of points ps, the first of which is word w
--     run_then w ps xs   that, where there are points, and then the acts xs
--     acts w ps ss       the acts of the steps ss, behind the open run ps that begins, or would begin, at word w
--     job_acts j         the acts of a job
--     Alike xs ys        the same acts, with masks of the same points
--     EndsRun w ps xs ys ys is xs and what comes of the run ps, if it has points
use Rattle.std.specs.Prelude.{◌≡◌, ℕ, ◌+◌, List, [], ◌∷◌, ◌++◌, length, Some, None, Ok, Err, Option}
use Rattle.masks.specs.Rows.{marked}
use Rattle.masks.specs.Faults.{refused}
use Rattle.masks.specs.declared.mask.Mask.{Mask}
use Rattle.masks.specs.declared.point.Point.{Point}
use Rattle.masks.specs.declared.fault.MaskFault.{MaskFault}
use Rattle.masks.specs.declared.fault.MaskFault.TheVariants.{NoPoints, Beyond}
use Rattle.strips.specs.Jobs.{Job, first_step, point_of}
use Rattle.strips.specs.declared.parts.Step.{Step}
use Rattle.strips.specs.declared.parts.Step.TheVariants as steps
use Rattle.jobs.specs.Masks.{mask_of}
use Rattle.jobs.specs.declared.act.Act.{Act}
use Rattle.jobs.specs.declared.act.Act.TheVariants.{Run, Filter}
use Rattle.jobs.specs.declared.fault.PointsFault.{PointsFault}

-- each point is one word, so the point at place i of the run is word w + i
abbrev pub blamed : ℕ → MaskFault → PointsFault
blamed w NoPoints = record { fault = NoPoints; word = w }
blamed w (Beyond i) = record { fault = Beyond i; word = w + i }

-- the run is refused
abbrev pub refuse : ℕ → MaskFault → Act
refuse w f = Run (Err (blamed w f))

-- the mask is laid; points that are not refused have one
abbrev pub laid : ℕ → Option Mask → Act
laid w (Some m) = Run (Ok m)
laid w None = refuse w NoPoints

abbrev pub act_by : ℕ → List Point → Option MaskFault → Act
act_by w ps None = laid w (mask_of ps)
act_by w ps (Some f) = refuse w f

abbrev pub act_of : ℕ → List Point → Act
act_of w ps = act_by w ps (refused ps)

abbrev pub run_then : ℕ → List Point → List Act → List Act
run_then w [] xs = xs
run_then w (p ∷ ps) xs = act_of w (p ∷ ps) ∷ xs

-- a point lengthens the run, which lasts until a call or the end
abbrev pub acts : ℕ → List Point → List Step → List Act
acts w ps [] = run_then w ps []
acts w ps (steps.Point p ∷ ss) = acts w (ps ++ point_of p ∷ []) ss
acts w ps (steps.Call q ∷ ss) = run_then w ps (Filter q ∷ acts (w + length ps + 1) [] ss)

abbrev pub job_acts : Job → List Act
job_acts j = acts (first_step j) [] j.steps

-- all that a mask does depends on its points alone
abbrev pub AlikeAct : Act → Act → Type 0
AlikeAct (Run (Ok m)) (Run (Ok n)) = marked m.rows ≡ marked n.rows
AlikeAct (Run (Ok m)) (Run (Err f)) = ⊥
AlikeAct (Run (Ok m)) (Filter q) = ⊥
AlikeAct (Run (Err f)) b = b ≡ Run (Err f)
AlikeAct (Filter q) b = b ≡ Filter q

abbrev pub Alike : List Act → List Act → Type 0
Alike [] [] = Unit {0}
Alike [] (y ∷ ys) = ⊥
Alike (x ∷ xs) [] = ⊥
Alike (x ∷ xs) (y ∷ ys) = AlikeAct x y × Alike xs ys

-- a run that is at its end is one act more, if it has points
abbrev pub EndsRun : ℕ → List Point → List Act → List Act → Type 0
EndsRun w [] xs ys = ys ≡ xs
EndsRun w (p ∷ ps) xs ys = (a : Act) × AlikeAct a (act_of w (p ∷ ps)) × (ys ≡ xs ++ a ∷ [])
