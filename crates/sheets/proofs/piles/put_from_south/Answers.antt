-- a put on a part of the turned sheet is a put on the sheet
use Rattle.std.proofs.Common.{◌+◌, rules}
use Rattle.sheets.specs.Sheet.{has}
use Rattle.sheets.specs.SouthUp.{flipped}
use Rattle.sheets.specs.Part.{part}
use Rattle.sheets.proofs.Turns.{put_turned}
use Rattle.sheets.proofs.piles.put_from_south.Goals as goal

pub returns : goal.returns
returns g c =
    let s = g.H.Holder.sheet c.args.inner in
    let asked = c.args.asked in
    put_turned (has (part (flipped s) asked) c.args.x c.args.y) s (g.H.Holder.sheet c.into_inner-2.result) (asked.left + c.args.x) (asked.top + c.args.y) c.args.c
    (search rules)
