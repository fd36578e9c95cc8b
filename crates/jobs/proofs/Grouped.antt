-- A run of points, one after the other.
use Rattle.std.proofs.Common.{◌≡◌, ℕ, ◌+◌, List, [], ◌∷◌, ◌++◌, sym, ap, ◌∙◌, append_assoc}
use Rattle.std.proofs.lemmas.List.{append-nil, length-map}
use Rattle.masks.specs.declared.point.Point.{Point}
use Rattle.strips.specs.Jobs.{point_of}
use Rattle.strips.specs.declared.parts.PointFields.{PointFields}
use Rattle.strips.specs.declared.parts.Step.{Step}
use Rattle.strips.specs.declared.parts.Step.TheVariants as steps
use Rattle.jobs.specs.Acts.{run_then, acts}
use Rattle.jobs.specs.Laws.{run_steps, run_points, Runs}
use Rattle.jobs.specs.declared.act.Act.TheVariants.{Filter}

-- behind points that were taken before, the run goes on
run_taken : (w : ℕ) (ps : List Point) (r : List PointFields) (ss : List Step) → acts w ps (run_steps r ++ ss) ≡ acts w (ps ++ run_points r) ss
run_taken w ps [] ss = ap (λ (qs : List Point). acts w qs ss) (sym (append-nil ps))
run_taken w ps (p ∷ r) ss =
    run_taken w (ps ++ point_of p ∷ []) r ss
    ∙ ap (λ (qs : List Point). acts w qs ss) (append_assoc ps (point_of p ∷ []) (run_points r))

pub runs : Runs
runs = record {
  call = λ w r q ss.
      run_taken w [] r (steps.Call q ∷ ss)
      ∙ ap (λ (n : ℕ). run_then w (run_points r) (Filter q ∷ acts (w + n + 1) [] ss)) (length-map r point_of);
  end = λ w r.
      ap (acts w []) (sym (append-nil (run_steps r))) ∙ run_taken w [] r [];
}
