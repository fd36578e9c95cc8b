-- The plan is that of the turned mask, so the sheet is the one that the verdict gives.
use Rattle.std.proofs.Common.{map, length, ◌∙◌, rules}
use Rattle.masks.specs.Points.{turned}
use Rattle.morphology.specs.Filters.{points_of}
use Rattle.sheets.specs.Sheet.{shown}
use Rattle.filters.specs.Calls.{verdict}
use Rattle.filters.proofs.Verdicts.{dilated_answer, dilated_verdict}
use Rattle.filters.proofs.filter.dilate.Goals as goal

pub returns : goal.returns
returns g c =
    let m = c.args.mask.now in
    let ps = map turned (points_of m) in
    let s = g.H.Holder.sheet c.args.holder.now in
    let n = length c.args.table.now in
    let F = c.filter.ensures in
    record {
      answer = F.answer m ps c.of_turned.ensures ∙ dilated_answer (verdict s m n) s.width s.height;
      after = F.after m ps c.of_turned.ensures ∙ dilated_verdict g.H.Cell.Kind.lattice m (shown g.H.Cell.Kind.means s) s n;
      refused = F.refused m ps c.of_turned.ensures;
      table = search rules;
    }
