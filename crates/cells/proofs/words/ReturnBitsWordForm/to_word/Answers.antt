-- The word is the bits that the stored ones count as, taken in again.
use Rattle.std.proofs.Common.{◌∙◌}
use Rattle.cells.proofs.WordTrips.{return_again}
use Rattle.cells.proofs.words.ReturnBitsWordForm.to_word.Goals as goal

pub returns-clause-again : goal.returns-clause-again
returns-clause-again c = return_again c.args.self.0 c.from-2.result.0 (c.from-2.ensures ∙ c.from.ensures)
