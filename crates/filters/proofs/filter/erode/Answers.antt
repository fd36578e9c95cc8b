-- The plan is the mask's, so the sheet is the one that the verdict gives.
use Rattle.std.proofs.Common.{length, ◌∙◌, rules}
use Rattle.morphology.specs.Filters.{points_of}
use Rattle.sheets.specs.Sheet.{shown}
use Rattle.filters.proofs.Verdicts.{eroded_verdict}
use Rattle.filters.proofs.filter.erode.Goals as goal

pub returns : goal.returns
returns g c =
    let m = c.args.mask.now in
    let s = g.H.Holder.sheet c.args.holder.now in
    let F = c.filter.ensures in
    record {
      answer = F.answer m (points_of m) c.of.ensures;
      after = F.after m (points_of m) c.of.ensures ∙ eroded_verdict g.H.Cell.Kind.lattice m (shown g.H.Cell.Kind.means s) s (length c.args.table.now);
      refused = F.refused m (points_of m) c.of.ensures;
      table = search rules;
    }
