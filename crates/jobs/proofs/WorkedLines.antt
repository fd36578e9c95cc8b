-- The worked job, line by line.
use Rattle.std.proofs.Common.{refl}
use Rattle.masks.specs.Rows.{columns, points}
use Rattle.masks.specs.Chords.{run, starts, chords}
use Rattle.masks.specs.Lengths.{ticked, halved, rising, lengths}
use Rattle.masks.specs.Cost.{spanned, table_cells, filter_picks}
use Rattle.morphology.specs.Bounds.{meets}
use Rattle.morphology.specs.Filters.{gathered}
use Rattle.jobs.specs.Masks.{drawn}
use Rattle.jobs.specs.Examples.{Worked}

pub worked : Worked
unfolding drawn columns points run starts chords ticked halved rising lengths spanned table_cells filter_picks gathered meets
worked = refl
