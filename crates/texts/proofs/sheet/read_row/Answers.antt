-- A word that is read as a cell is one more; the first that is not, stands behind those that were.
use Rattle.std.proofs.Common.{rules, ◌≡◌, [], ◌∷◌, ◌++◌, append_assoc, refl, inr, ap, ◌∙◌}
use Rattle.texts.proofs.Rows.{read-more}
use Rattle.texts.proofs.sheet.read_row.Goals as goal

pub loop-word-preserved : goal.loop-word-preserved
loop-word-preserved g c =
    let passed = c.loop-word.invariant in
    let all : c.push.new.self.items ≡ c.args.cells.now.items ++ (passed.0 ++ c.in-Ok.cell ∷ []) =
    c.in_ok-push-in-Ok.ensures.items ∙ ap (λ xs. xs ++ c.in-Ok.cell ∷ []) passed.2 ∙ append_assoc c.args.cells.now.items passed.0 (c.in-Ok.cell ∷ []) in
    (passed.0 ++ c.in-Ok.cell ∷ [], read-more g.T.FromStr.from_str_gives c.loop-word.yielded passed.0 c.in-Some.word c.in-Ok.cell passed.1 c.in-Ok.ensures.value, all)

pub returns-in-Err-clause-fault : goal.returns-in-Err-clause-fault
returns-in-Err-clause-fault g c =
    let passed = c.loop-word.invariant in
    inr (
      refl,
      (
        c.into_iter-word-iterator.result,
        c.next.new.self,
        c.loop-word.yielded,
        passed.0,
        c.in-Some.word,
        c.in-Err.field-0,
        search rules,
        (c.loop-word.word-iterator, c.loop-word.yielded_by, c.in-Some.ensures.steps),
        passed.1,
        c.in-Err.ensures.value,
      ),
    )
