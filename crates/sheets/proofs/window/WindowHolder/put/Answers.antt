-- a put below a place of the part is a put on the part
use Rattle.std.proofs.Common.{rules}
use Rattle.sheets.proofs.Parts.{part_put}
use Rattle.sheets.proofs.window.WindowHolder.put.Goals as goal

pub returns-clause-after : goal.returns-clause-after
returns-clause-after g c =
    let u = c.args.self.now in
    search (rules, part_put (g.H.Holder.sheet u.inner) u.asked c.args.x c.args.y c.args.c)
