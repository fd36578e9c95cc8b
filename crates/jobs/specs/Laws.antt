-- What a run of points is taken for, in words that the definitions do not share.
--     MaskOf ps o        o is a mask with just the points ps
--     Masks              points that are not refused have such a mask
--     run_steps r, run_points r   the steps with the fields r, and the points that they are
--     Runs               each run of points, up to a call or the end, is one act, told from its first word
use Rattle.std.specs.Prelude.{◌≡◌, ℕ, ◌+◌, List, [], ◌∷◌, ◌++◌, map, length, Some, None, Option}
use Rattle.masks.specs.Rows.{Drawn}
use Rattle.masks.specs.Faults.{refused}
use Rattle.masks.specs.declared.point.Point.{Point}
use Rattle.masks.specs.declared.mask.Mask.{Mask}
use Rattle.morphology.specs.declared.call.Filter as filters
use Rattle.strips.specs.Jobs.{point_of}
use Rattle.strips.specs.declared.parts.PointFields.{PointFields}
use Rattle.strips.specs.declared.parts.Step.{Step}
use Rattle.strips.specs.declared.parts.Step.TheVariants as steps
use Rattle.jobs.specs.Masks.{mask_of}
use Rattle.jobs.specs.Acts.{run_then, acts}
use Rattle.jobs.specs.declared.act.Act.TheVariants.{Filter}

abbrev pub MaskOf : List Point → Option Mask → Type 0
MaskOf ps o = (m : Mask) × (o ≡ Some m) × Drawn m.rows ps

abbrev pub Masks : Type 0
Masks = (ps : List Point) → refused ps ≡ None → MaskOf ps (mask_of ps)

abbrev pub run_steps : List PointFields → List Step
run_steps r = map steps.Point r

abbrev pub run_points : List PointFields → List Point
run_points r = map point_of r

-- these two tell the acts of all steps, since steps are runs of points with calls between them
pub record Runs : Type 0 where
  pub call : (w : ℕ) (r : List PointFields) (q : filters.Filter) (ss : List Step) → acts w [] (run_steps r ++ steps.Call q ∷ ss) ≡ run_then w (run_points r) (Filter q ∷ acts (w + length r + 1) [] ss)
  pub end : (w : ℕ) (r : List PointFields) → acts w [] (run_steps r) ≡ run_then w (run_points r) []
