-- A turn makes one more call and writes its answer; at the end the calls made are those that have a place for an answer.
use Rattle.std.proofs.Common.{◌-◌, length, take, sym, ◌∙◌, subst, arith}
use Rattle.std.proofs.lemmas.List.{length-take}
use Rattle.morphology.proofs.Adjoint.{adjunction}
use Rattle.morphology.proofs.Runs.{four_sheets}
use Rattle.worksheets.specs.Runs.{made, Ran}
use Rattle.worksheets.proofs.Steps.{run_more, front_all, made_long}
use Rattle.worksheets.proofs.Outcomes.{stands}
use Rattle.worksheets.proofs.worksheet.Worksheet.run.Goals as goal

pub loop-i-preserved : goal.loop-i-preserved
loop-i-preserved g c =
    let calls = take (c.min-count.result - 0) c.args.calls.now in
    let long = length-take (c.min-count.result - 0) c.args.calls.now in
    run_more g.H.Cell.Kind.lattice g.H.Cell.Kind.means g.H.Holder.sheet c.args.self.now c.loop-i.self c.call.new.self c.args.table.now c.loop-i.table c.call.new.table
    c.args.told.now c.loop-i.told calls c.loop-i.i c.call-item.result c.call.result
    c.loop-i-test.true (omega (arith, c.loop-i-test.true, long, c.min-count.ensures)) c.call-item.is
    c.loop-i.invariant c.call.ensures

pub returns : goal.returns
returns g c =
    let k = g.H.Cell.Kind.lattice in
    let f = g.H.Cell.Kind.means in
    let sheet = g.H.Holder.sheet in
    let w = c.args.self.now in
    let t = c.args.table.now in
    let bs = c.args.told.now in
    let calls = c.args.calls.now in
    let all = front_all (length t) calls (length bs) c.loop-i.i (c.min-count.result - 0) (omega (arith, c.min-count.ensures)) c.loop-i-test.false in
    let ran : Ran k f sheet (made (length t) (length bs) calls) w c.loop-i.self t c.loop-i.table bs c.loop-i.told =
    subst (λ ds. Ran k f sheet ds w c.loop-i.self t c.loop-i.table bs c.loop-i.told) all c.loop-i.invariant in
    record {
      count = c.min-count.ensures ∙ sym (made_long (length t) calls (length bs));
      ran = ran;
      stands = stands k f sheet (made (length t) (length bs) calls) w c.loop-i.self ran.after;
      adjunction = adjunction k;
      four_sheets = four_sheets k;
    }
