-- a write at the index of a place is a put there
use Rattle.sheets.proofs.Laid.{held_put}
use Rattle.sheets.proofs.lent.LentHolder.put.Goals as goal

pub returns-clause-after : goal.returns-clause-after
returns-clause-after g c =
    let s = c.args.self.now.size in
    let i = c.in-Some.ensures in
    held_put (g.L.Layout.room s.width s.height) s.width s.height (g.L.Layout.place s.width) c.args.self.now.cells.now c.args.x c.args.y c.in-Some.i c.args.c (g.met.L.Layout.apart s.width s.height) i.answer i.below
