-- The byte is the sum of what its marks are worth.
use Rattle.std.proofs.Common.{sym, ◌∙◌, rules}
use Rattle.jobs.proofs.Bytes.{byte_listed}
use Rattle.jobs.proofs.word.FlagsListed.word.Goals as goal

pub returns-clause-answer : goal.returns-clause-answer
returns-clause-answer c = c.to_word.ensures.answer ∙ sym (byte_listed c.args.self.0 (search rules))
