-- The pile of the job's cells is that of its raw words.
use Rattle.std.proofs.Common.{◌≡◌, ap, ◌∙◌}
use Rattle.std.proofs.lemmas.Result.{IfOk-weaker}
use Rattle.sheets.specs.Rows.{rows_sheet, whole_rows}
use Rattle.strips.specs.Views.{job_of}
use Rattle.jobs.specs.Piles.{north_up, framed, topmost}
use Rattle.jobs.proofs.Cells.{lists_pile}
use Rattle.jobs.proofs.run.Planned.list_as.Goals as goal

pub returns : goal.returns
returns g c =
    let j = job_of c.args.self.now.job.now in
    let cells = c.in_ok-cells.cells.items in
    let shown_pile = framed j.window (north_up j.kind (rows_sheet c.new-rows.result)) in
    let pile : shown_pile ≡ topmost j.kind j.width j.window cells =
    ap (λ s. framed j.window (north_up j.kind s)) (c.new-rows.ensures ∙ ap (whole_rows c.width.result) c.as_mut_slice.ensures.value ∙ ap (λ w. whole_rows w cells) c.width.ensures) in
    IfOk-weaker c.list_turned.result _ _
    (λ v l. lists_pile g.K.Kind.lattice g.K.Kind.means g.K.WordForm.reads g.K.Listed.listed c.args.self.now.acts.now j shown_pile cells v.items c.in_ok-cells.ensures pile l)
    c.list_turned.ensures
