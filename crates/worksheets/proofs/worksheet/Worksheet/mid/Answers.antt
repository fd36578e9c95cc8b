-- Opened here, closed there, blended: the mid. All three go ahead where the verdict allows it.
use Rattle.std.proofs.Common.{◌≡◌, ℕ, ◌+◌, ◌*◌, ◌&&◌, length, Some, Ok, sym, refl, ap, ap₂, ◌∙◌, subst, arith, rules}
use Rattle.masks.specs.Cost.{filter_picks}
use Rattle.sheets.specs.Sheet.{Sheet, shown}
use Rattle.morphology.specs.Calls.{verdict}
use Rattle.morphology.specs.Filters.{closed, points_of}
use Rattle.morphology.specs.Mid.{Between}
use Rattle.morphology.specs.Refusals.{fits, by_mask, judged}
use Rattle.morphology.specs.declared.call.Filter.TheVariants.{Open, Close}
use Rattle.worksheets.specs.Mid.{MidBy, judged_sheets}
use Rattle.worksheets.specs.Performed.{state, under}
use Rattle.worksheets.proofs.Middles.{mid_sheet, mid_between, leaves, mask_stays, picks_made, goes_under, copied, mid_goes}
use Rattle.worksheets.proofs.Passes.{judged_few}
use Rattle.worksheets.proofs.worksheet.Worksheet.mid.Given as given
use Rattle.worksheets.proofs.worksheet.Worksheet.mid.Goals as goal

-- the second sheet is a copy of the first
is_copy : (g : given.Over) (c : goal.After-blend g) → g.G.Holder.sheet c.copy_into.new.to ≡ g.H.Holder.sheet c.args.self.now.holder
is_copy g c = copied (g.H.Holder.sheet c.args.self.now.holder) (g.G.Holder.sheet c.args.second.now) (g.G.Holder.sheet c.copy_into.new.to) c.copy_into.result (search rules) c.copy_into.ensures.after

-- nothing speaks against any of the three
goes : (g : given.Over) (c : goal.After-blend g) →
    judged_sheets (g.H.Holder.sheet c.args.self.now.holder) (g.G.Holder.sheet c.args.second.now) c.args.self.now.mask (length c.args.table.now) ≡ Ok c.in_ok-mask.mask
goes g c =
    let s = g.H.Holder.sheet c.args.self.now.holder in
    let t = g.G.Holder.sheet c.args.second.now in
    let ew : s.width ≡ t.width = search rules in
    let eh : s.height ≡ t.height = search rules in
    mid_goes s t c.args.self.now.mask (length c.args.table.now) c.in_ok-mask.mask c.in_ok-mask.ensures ew eh

-- nothing speaks against the filter of either sheet
second_goes : (g : given.Over) (c : goal.After-blend g) →
    Ok c.in_ok-mask.mask ≡ verdict (state g.H.Cell.Kind.means g.G.Holder.sheet (under c.in_ok-mask.mask c.copy_into.new.to)) (length c.open.new.table)
second_goes g c =
    let s = g.H.Holder.sheet c.args.self.now.holder in
    let m = c.in_ok-mask.mask in
    goes_under s.width s.height (length c.args.table.now) c.args.self.now.mask m c.in_ok-mask.ensures
    ∙ ap₂ (λ (s : Sheet g.row.H-Cell.Denot) (n : ℕ). judged s.width s.height (Some m) n) (sym (is_copy g c)) (sym c.in_ok-opening.ensures.table)

opening_of : (g : given.Over) (c : goal.After-blend g) →
    c.in_ok-opening.opening ≡ 2 * filter_picks c.in_ok-mask.mask.rows (g.H.Holder.sheet c.args.self.now.holder).width (g.H.Holder.sheet c.args.self.now.holder).height
opening_of g c =
    picks_made g.H.Cell.Kind.lattice g.H.Cell.Kind.means g.H.Holder.sheet Open c.args.self.now c.open.new.self c.args.table.now c.open.new.table c.in_ok-opening.opening c.in_ok-mask.mask c.in_ok-mask.ensures c.in_ok-opening.ensures

closing_picks : (g : given.Over) (c : goal.After-blend g) →
    c.in_ok-closing.closing ≡ 2 * filter_picks c.in_ok-mask.mask.rows (g.H.Holder.sheet c.args.self.now.holder).width (g.H.Holder.sheet c.args.self.now.holder).height
closing_picks g c =
    let m = c.in_ok-mask.mask in
    picks_made g.H.Cell.Kind.lattice g.H.Cell.Kind.means g.G.Holder.sheet Close (under m c.copy_into.new.to) (under m c.filter.new.holder) c.open.new.table c.filter.new.table c.in_ok-closing.closing m (second_goes g c) c.in_ok-closing.ensures
    ∙ ap (λ (s : Sheet g.row.H-Cell.Denot). 2 * filter_picks m.rows s.width s.height) (is_copy g c)

closing : (g : given.Over) (c : goal.After-blend g) →
    shown g.H.Cell.Kind.means (g.G.Holder.sheet c.filter.new.holder) ≡ closed g.H.Cell.Kind.lattice (points_of c.in_ok-mask.mask) (shown g.H.Cell.Kind.means (g.H.Holder.sheet c.args.self.now.holder))
closing g c =
    let m = c.in_ok-mask.mask in
    leaves g.H.Cell.Kind.lattice g.H.Cell.Kind.means g.G.Holder.sheet Close (under m c.copy_into.new.to) (under m c.filter.new.holder) c.open.new.table c.filter.new.table c.in_ok-closing.closing m (second_goes g c) c.in_ok-closing.ensures
    ∙ ap (λ (s : Sheet g.row.H-Cell.Denot). closed g.H.Cell.Kind.lattice (points_of m) (shown g.H.Cell.Kind.means s)) (is_copy g c)

pub overflow_add-result : goal.overflow_add-result
overflow_add-result g c =
    let s = g.H.Holder.sheet c.args.self.now.holder in
    let few = judged_few (fits s.width && fits s.height) s.width s.height (by_mask s.width c.args.self.now.mask (length c.args.table.now)) c.in_ok-mask.mask refl (sym c.in_ok-mask.ensures) in
    omega (arith, opening_of g c, closing_picks g c, few)

pub returns-clause-performed : goal.returns-clause-performed
returns-clause-performed g c =
    let k = g.H.Cell.Kind.lattice in
    let f = g.H.Cell.Kind.means in
    let level = g.H.Cell.Measured.level in
    let m = c.in_ok-mask.mask in
    let s = g.H.Holder.sheet c.args.self.now.holder in
    let t = g.G.Holder.sheet c.args.second.now in
    let u = g.H.Holder.sheet c.open.new.self.holder in
    let v = g.G.Holder.sheet c.filter.new.holder in
    let r = c.in_ok-opening.opening + c.in_ok-closing.closing in
    let sum : r ≡ 4 * filter_picks m.rows s.width s.height = omega (arith, opening_of g c, closing_picks g c) in
    let O = leaves k f g.H.Holder.sheet Open c.args.self.now c.open.new.self c.args.table.now c.open.new.table c.in_ok-opening.opening m c.in_ok-mask.ensures c.in_ok-opening.ensures in
    record {
      done = subst (λ v. MidBy k f level v (shown f s) s (g.H.Holder.sheet c.blend.new.first) t (g.G.Holder.sheet c.filter.new.holder) c.args.table.now c.filter.new.table (Ok r)) (sym (goes g c))
          (ap (λ (n : ℕ). Ok n) sum, mid_sheet k f level (points_of m) s u v (g.H.Holder.sheet c.blend.new.first) c.size-size.ensures.whole O (closing g c) c.blend.ensures, closing g c);
      mask = mask_stays k f g.H.Holder.sheet Open c.args.self.now c.open.new.self c.args.table.now c.open.new.table c.in_ok-opening.opening m c.in_ok-mask.ensures c.in_ok-opening.ensures;
      table = search rules;
    }

pub returns-clause-between : goal.returns-clause-between
returns-clause-between g c = λ m e.
    let k = g.H.Cell.Kind.lattice in
    let f = g.H.Cell.Kind.means in
    let level = g.H.Cell.Measured.level in
    let n = c.in_ok-mask.mask in
    let s = g.H.Holder.sheet c.args.self.now.holder in
    let u = g.H.Holder.sheet c.open.new.self.holder in
    let v = g.G.Holder.sheet c.filter.new.holder in
    let one : Ok n ≡ Ok m = sym (goes g c) ∙ e in
    let same : n ≡ m = cc in
    let O = leaves k f g.H.Holder.sheet Open c.args.self.now c.open.new.self c.args.table.now c.open.new.table c.in_ok-opening.opening n c.in_ok-mask.ensures c.in_ok-opening.ensures in
    subst (λ m. Between k f (points_of m) (shown f s) (g.H.Holder.sheet c.blend.new.first)) same
    (mid_between k f level (points_of n) s u v (g.H.Holder.sheet c.blend.new.first) c.size-size.ensures.whole O (closing g c) c.blend.ensures)
