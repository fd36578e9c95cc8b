-- The three words are those that the iterator gives one after the other.
use Rattle.std.proofs.Common.{rules, tests, ◌≡◌, None}
use Rattle.texts.specs.Settings.{behind}
use Rattle.texts.proofs.line.alone.Goals.{else-is_some-via-then-is_some+else-is_none, else-is_some-via-else-is_some}
use Rattle.texts.proofs.line.alone.Goals as goal

pub returns-then-is_none : goal.returns-then-is_none
returns-then-is_none c =
    let last : c.next-second.result ≡ behind c.next-first.result c.next-second.result c.next-third.result = search (rules, tests) in (
      c.next-first.result,
      c.next-second.result,
      c.next-third.result,
      (
        c.split_whitespace-words.result,
        c.next-first.new.self,
        c.next-second.new.self,
        c.next-third.new.self,
        c.split_whitespace-words.ensures.rest,
        c.next-first.ensures.steps,
        c.next-second.ensures.steps,
        c.next-third.ensures.steps,
      ),
      last,
    )

pub returns-else-is_some : goal.returns-else-is_some
returns-else-is_some c =
    let last : None ≡ behind c.next-first.result c.next-second.result c.next-third.result =
    elim c.else-is_some.branch [ else-is_some-via-then-is_some+else-is_none w ↦ search (rules, tests) | else-is_some-via-else-is_some w ↦ search (rules, tests) ] in (
      c.next-first.result,
      c.next-second.result,
      c.next-third.result,
      (
        c.split_whitespace-words.result,
        c.next-first.new.self,
        c.next-second.new.self,
        c.next-third.new.self,
        c.split_whitespace-words.ensures.rest,
        c.next-first.ensures.steps,
        c.next-second.ensures.steps,
        c.next-third.ensures.steps,
      ),
      last,
    )
