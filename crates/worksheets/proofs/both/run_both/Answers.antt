-- Each worksheet runs the same calls with the front of its table; the laws are those of the definitions.
use Rattle.std.proofs.Common.{◌≡◌, ◌-◌, min, length, sym, refl, ◌∙◌, arith}
use Rattle.morphology.proofs.Adjoint.{adjunction}
use Rattle.morphology.proofs.Runs.{four_sheets}
use Rattle.morphology.proofs.Maps.{matching}
use Rattle.worksheets.proofs.Steps.{made_long}
use Rattle.worksheets.proofs.Outcomes.{ran_both}
use Rattle.worksheets.proofs.both.run_both.Goals as goal

pub returns : goal.returns
returns g c =
    let k = g.A.Kind.lattice in
    let l = g.B.Kind.lattice in
    let t = c.args.first-table.now in
    let u = c.args.second-table.now in
    let bs = c.args.first-told.now in
    let ds = c.args.second-told.now in
    let calls = c.args.calls.now in
    let room = c.min-room.result - 0 in
    let count = c.min-count.result - 0 in
    let is-room : room ≡ min (length t) (length u) = omega (arith, c.min-room.ensures) in
    let is-count : count ≡ min (min (length calls) (length bs)) (length ds) = omega (arith, c.min.ensures, c.min-count.ensures) in
    let is_made : c.min-count.result ≡ min (length calls) (min (length bs) (length ds)) = omega (arith, c.min.ensures, c.min-count.ensures) in
    record {
      count = is_made ∙ sym (made_long (min (length t) (length u)) calls (min (length bs) (length ds)));
      ran =
          ran_both k l g.A.Kind.means g.B.Kind.means g.G.Holder.sheet g.H.Holder.sheet
          c.args.first.now c.run.new.self c.args.second.now c.run-2.new.self
          t _ c.run.new.table u _ c.run-2.new.table bs c.run.new.told ds c.run-2.new.told calls _ room count
          is-room is-count refl refl refl c.run.ensures.ran c.run-2.ensures.ran;
      adjunction = (adjunction k, adjunction l);
      four_sheets = (four_sheets k, four_sheets l);
      matching = matching k l;
    }
