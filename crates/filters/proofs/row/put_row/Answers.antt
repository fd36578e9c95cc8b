-- One cell more is put; the places that have a cell stay.
use Rattle.std.proofs.Common.{◌≡◌, ◌<◌, ◌≢◌, length, Some, sym, ap, ◌∙◌, arith, below_more}
use Rattle.std.specs.Option.{option_map}
use Rattle.sheets.specs.Sheet.{Sheet, has, put_at}
use Rattle.filters.proofs.Entries.{at_read}
use Rattle.filters.proofs.Places.{put_here, put_column, put_row, put_has}
use Rattle.filters.proofs.row.put_row.Goals as goal

pub loop-x-preserved : goal.loop-x-preserved
loop-x-preserved g c =
    let f = g.H.Cell.Kind.means in
    let s = g.H.Holder.sheet c.loop-x.h in
    let v = c.index-row-x.result in
    let after : g.H.Holder.sheet c.put.new.self ≡ put_at s c.loop-x.x c.args.y v = c.put.ensures.after in
    let lt : c.loop-x.x < length c.args.row.now = omega (arith, c.loop-x-test.true, c.size.ensures.width, c.loop-x.invariant.0, c.requires.wide) in (
      ap (λ (t : Sheet g.row.H-Cell.Denot). t.width) after ∙ c.loop-x.invariant.0,
      ap (λ (t : Sheet g.row.H-Cell.Denot). t.height) after ∙ c.loop-x.invariant.1,
      λ z. below_more _ _
          (λ k h. let ne : k ≢ c.loop-x.x = omega arith in
          ap (λ (t : Sheet g.row.H-Cell.Denot). option_map f (t.cell k c.args.y)) after
          ∙ ap (option_map f) (put_column s c.loop-x.x c.args.y v k c.args.y ne)
          ∙ c.loop-x.invariant.2 z k h)
          (ap (λ (t : Sheet g.row.H-Cell.Denot). option_map f (t.cell c.loop-x.x c.args.y)) after
          ∙ ap (option_map f) (put_here s c.loop-x.x c.args.y v (c.loop-x.invariant.5 c.loop-x.x lt))
          ∙ ap (λ (v : g.H.Cell.Kind.Cell). Some v) (sym (at_read f z c.args.row.now c.loop-x.x v lt c.index-row-x.is))),
      λ i j h. let ne : i ≢ c.loop-x.x = omega arith in ap (λ (t : Sheet g.row.H-Cell.Denot). t.cell i j) after ∙ put_column s c.loop-x.x c.args.y v i j ne ∙ c.loop-x.invariant.3 i j h,
      λ i j h. ap (λ (t : Sheet g.row.H-Cell.Denot). t.cell i j) after ∙ put_row s c.loop-x.x c.args.y v i j h ∙ c.loop-x.invariant.4 i j h,
      λ x h. ap (λ (t : Sheet g.row.H-Cell.Denot). has t x c.args.y) after ∙ put_has s c.loop-x.x c.args.y v x c.args.y ∙ c.loop-x.invariant.5 x h,
    )
