-- The next word is the first of those that are left.
use Rattle.std.proofs.lemmas.Result.{err_from_is_err_and}
use Rattle.strips.proofs.Fronts.{word_first, word_none}
use Rattle.strips.proofs.strip.Strip.word.Goals as goal

pub returns-in_err-word-clause-word : goal.returns-in_err-word-clause-word
returns-in_err-word-clause-word c =
    let p = err_from_is_err_and c.from_residual.result c.from_residual.ensures.1 in
    let cut = rw c.in_err-word.ensures.ok_part at c.in_err-word.ensures.value in
    rw (p.1, p.2) (word_none c.args.self.now.place c.args.self.now.words.now c.in_err-word.field-0.0 (rw c.in_err-word.ensures.ok_part at c.split_first.ensures.cases) cut)

pub returns-clause-word : goal.returns-clause-word
returns-clause-word c = word_first c.args.self.now.place c.from_be_bytes-said.result c.args.self.now.words.now c.in_ok-word.rest.now c.in_ok-word.word.now (rw c.in_ok-word.ensures.ok_part at c.split_first.ensures.cases).0 c.from_be_bytes-said.ensures
