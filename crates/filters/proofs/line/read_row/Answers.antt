-- Padding in the west, then the row, and what lies beyond it in the east.
use Rattle.std.proofs.Common.{◌≡◌, ◌+◌, ◌-◌, ◌≤◌, length, sym, refl, ap, ◌∙◌, arith, rules}
use Rattle.std.proofs.lemmas.List.{places}
use Rattle.filters.specs.Line.{or_else, padded}
use Rattle.filters.proofs.Entries.{three_parts}
use Rattle.filters.proofs.Places.{pad_column, cell_column}
use Rattle.filters.proofs.line.read_row.Goals as goal

pub returns : goal.returns
returns g c =
    let f = g.H.Cell.Kind.means in
    let s = g.H.Holder.sheet c.args.h.now in
    let n = length c.args.cells.now in
    let y = c.args.y in
    let q = f c.args.pad in
    let long : 30 ≤ n = c.requires in
    let west : length c.fill.new.cells ≡ 15 = search (rules, places) in
    let mid : length c.read_cells.new.cells ≡ n - 15 - 15 = search (rules, places) in
    let east : length c.read_cells-2.new.cells ≡ 15 = search (rules, places) in
    λ z. three_parts f z c.args.cells.now c.fill.new.cells c.read_cells.new.cells c.read_cells-2.new.cells n _ (padded f q s y) refl long west mid east
    (λ i h. c.fill.ensures z i (search (rules, places)) ∙ sym (pad_column f q s y i h))
    (λ i h. let e : 0 + i ≡ i = omega arith in c.read_cells.ensures z i (search (rules, places)) ∙ ap (λ x. or_else f q (s.cell x y)) e ∙ sym (cell_column f q s y i))
    (λ i h. let e : 15 + (n - 15 - 15 + i) ≡ n - 15 + i = omega arith in
    c.read_cells-2.ensures z i (search (rules, places)) ∙ sym (cell_column f q s y (n - 15 - 15 + i)) ∙ ap (padded f q s y) e)
