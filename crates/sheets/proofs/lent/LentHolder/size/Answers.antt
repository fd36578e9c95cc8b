-- where each place has its index within the room, it has a cell
use Rattle.sheets.specs.Wholes.{held_whole}
use Rattle.sheets.proofs.lent.LentHolder.size.Goals as goal

pub returns-clause-whole : goal.returns-clause-whole
returns-clause-whole g c =
    let s = c.args.self.now.size in
    held_whole (g.L.Layout.room s.width s.height) s.width s.height (g.L.Layout.place s.width) c.args.self.now.cells.now (g.met.L.Layout.within s.width s.height)
