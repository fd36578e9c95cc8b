-- The chords of a mask have from 1 to 31 points, and there is one at least.
use Rattle.masks.specs.Chords.{chords}
use Rattle.masks.proofs.Halving.{lengths_serve}
use Rattle.masks.proofs.Runs.{chord_sizes, some_chord}
use Rattle.masks.proofs.lengths.LengthList.of.Goals as goal

pub returns-clause-serves : goal.returns-clause-serves
returns-clause-serves c =
    let rows = c.args.mask.now.rows in
    let some = some_chord rows c.args.mask.now.some in
    lengths_serve (chords rows 31) some.0 some.1 (chord_sizes rows)
