-- Each example is worked out where its subject is.
use Rattle.std.proofs.Common.{refl}
use Rattle.morphology.proofs.GrayRows.{gray_examples}
use Rattle.morphology.proofs.FlagRows.{flag_examples}
use Rattle.morphology.proofs.MaskCosts.{mask_examples, call_examples}
use Rattle.morphology.proofs.Edges.{edge_example}
use Rattle.morphology.proofs.Hits.{found}
use Rattle.morphology.proofs.examples.worked.Goals as goal

pub returns : goal.returns
returns c = record {
  grays_shown = gray_examples;
  flags_shown = flag_examples;
  masks_cost = mask_examples;
  calls_answer = call_examples;
  edge_lost = edge_example;
  found = found;
  return_rank = refl;
}
