-- The two words are those that were taken.
use Rattle.std.proofs.Common.{rules, tests, ◌≡◌}
use Rattle.texts.specs.Parts.{begun_by}
use Rattle.texts.proofs.part.Part.begins.Goals as goal

pub returns-then-eq : goal.returns-then-eq
returns-then-eq c =
    let same : c.is_none.result ≡ begun_by c.args.self c.next-first.result c.next-second.result = search (rules, tests) in (
      c.next-first.result,
      c.next-second.result,
      (c.split_whitespace-words.result, c.next-first.new.self, c.next-second.new.self, c.split_whitespace-words.ensures.rest, c.next-first.ensures.steps, c.next-second.ensures.steps),
      same,
    )
