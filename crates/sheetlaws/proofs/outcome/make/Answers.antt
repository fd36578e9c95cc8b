-- Each list has a place for each answer, and both tables are as long as a call may want.
use Rattle.std.proofs.Common.{◌≡◌, ℕ, map, length, min, ap, ◌∙◌, List, arith}
use Rattle.cells.specs.Kinds.{grays, gray_cell}
use Rattle.cells.specs.declared.gray.Gray.{Gray}
use Rattle.sheets.specs.Sheet.{Sheet, shown}
use Rattle.sheets.specs.Rows.{whole_rows}
use Rattle.morphology.specs.Calls.{State, new, answers}
use Rattle.filters.specs.Lists.{written}
use Rattle.worksheets.specs.Runs.{within, made}
use Rattle.sheetlaws.proofs.Told.{told_all, lent_all}
use Rattle.sheetlaws.proofs.outcome.make.Goals as goal

pub returns : goal.returns
returns c =
    let cs = c.args.calls.now in
    let bs = c.as_mut_slice-3.result.now in
    let ds = c.as_mut_slice-4.result.now in
    let t = c.as_mut_slice-5.result.now in
    let u = c.as_mut_slice-6.result.now in
    let n = length c.args.gray.now.table.items in
    let m = min (length bs) (length ds) in
    let loaded : State _ = new (shown (λ (g : Gray). gray_cell g.0) (whole_rows c.args.width c.args.gray.now.cells.items)) in
    let places : length bs ≡ length cs = ap length c.as_mut_slice-3.ensures.value ∙ c.requires.places in
    let flag_places : length ds ≡ length cs = ap length c.as_mut_slice-4.ensures.value ∙ c.requires.flag_places in
    let long_t : length t ≡ n = ap length c.as_mut_slice-5.ensures.value in
    let long_u : length u ≡ n = ap length c.as_mut_slice-6.ensures.value ∙ c.requires.tables in
    let tables : min (length t) (length u) ≡ n = omega (arith, long_t, long_u) in
    let newly = c.new-2.ensures.shows ∙ ap (λ (r : Sheet Gray). new (shown (λ (g : Gray). gray_cell g.0) r)) (c.new.ensures ∙ ap (λ (gs : List Gray). whole_rows c.args.width gs) c.as_mut_slice.ensures.value) in
    let told : c.run_both.new.first_told ≡ answers grays (map (within n) cs) loaded =
    c.run_both.ensures.ran.first.told
    ∙ ap (λ s. written (answers grays (made (min (length t) (length u)) m cs) s) bs) newly
    ∙ ap (λ (i : ℕ). written (answers grays (made i m cs) loaded) bs) tables
    ∙ told_all grays cs loaded n m bs (omega (arith, places, flag_places)) places in
    lent_all grays cs loaded n m c.args.gray.now.answers.items c.run_both.new.first_told c.args.gray.now.answers.len told c.requires.places
    (let e = ap length c.as_mut_slice-3.ensures.value in let l = c.as_mut_slice-3.ensures.len in omega (arith, e, l))
