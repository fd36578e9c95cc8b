-- The three steps are those of the definition.
use Rattle.std.proofs.Common.{Bool, List, ap, ◌∙◌}
use Rattle.masks.specs.Lengths.{halved, rising, lengths}
use Rattle.masks.proofs.lengths.LengthList.of_chords.Goals as goal

pub returns : goal.returns
unfolding lengths
returns c = c.rising.ensures ∙ ap (λ (s : List Bool). rising s 31) (c.halved.ensures ∙ ap halved c.ticked.ensures)
