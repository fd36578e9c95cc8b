-- The runs are built over the single cells that were loaded, so they are runs of the line's cells.
use Rattle.std.proofs.Common.{◌≡◌, ◌+◌, ◌≤◌, length, ap, ◌∙◌, arith, rules}
use Rattle.std.proofs.lemmas.List.{places}
use Rattle.plans.specs.Shown.{lengths_of}
use Rattle.filters.specs.Side.{side}
use Rattle.filters.specs.Line.{entry}
use Rattle.filters.proofs.Entries.{at_part}
use Rattle.filters.proofs.Rooms.{part_room}
use Rattle.filters.proofs.Lines.{runs_holds}
use Rattle.filters.proofs.line.take_line.Goals as goal

pub returns : goal.returns
returns g c =
    let p = c.args.course.now.plan in
    let w = c.args.course.now.width in
    let room = part_room 0 (length (lengths_of p)) (w + 30) p.sound.some_length in
    let k = side g.S.Side.lower g.H.Cell.Kind.lattice in
    let f = g.H.Cell.Kind.means in
    let old = c.args.lines.now in
    let line = c.load_line.new.cells in
    let low : 0 ≤ length old = omega arith in
    let n : length line ≡ w + 30 = search (rules, places) in
    record {
      few = c.build.ensures.few;
      picks = c.build.ensures.picks;
      holds = runs_holds k f (f c.args.course.now.pad) (g.H.Holder.sheet c.args.h.now) p w _ c.build.new.lines c.args.line
          (λ i h. let e : i ≡ 0 + i = omega arith in ap (entry k f _) e ∙ at_part f k.greatest 0 _ old line low i (omega (arith, n)) ∙ c.load_line.ensures k.greatest i (search (rules, places))) c.build.ensures.runs;
    }
