-- The example at the edge, worked out.
use Rattle.std.proofs.Common.{T, eqb, pos, nat_abs, unwrap_or, refl, ap, subst}
use Rattle.std.specs.Option.{option_map}
use Rattle.morphology.specs.Bounds.{meets}
use Rattle.morphology.specs.Filters.{gathered}
use Rattle.morphology.specs.Edge.{EdgeExample}

pub edge_example : EdgeExample
unfolding meets gathered
edge_example = record {
  twice = (refl, refl);
  once = (refl, refl);
  unlike = λ e. subst (λ n. T (eqb n 255)) (ap (λ s. nat_abs (unwrap_or (option_map (λ c. c.number) (s.cell 1 0)) (pos 0))) e) tt;
}
