-- The text is that of a short table.
use Rattle.std.proofs.Common.{append_assoc}
use Rattle.texts.proofs.told.ToldRefusalDisplay.fmt.Goals as goal

pub returns-in-ShortTable-clause-writes : goal.returns-in-ShortTable-clause-writes
returns-in-ShortTable-clause-writes g c =
    rw c.in-ShortTable.is (simp append_assoc (rw c.in-ShortTable.is at (rw c.number-number.ensures at c.write.ensures.writes)))
