-- A turn takes in one point; at the end they are all points of the list.
use Rattle.std.proofs.Common.{◌≡◌, ℕ, ◌<◌, [], ◌∷◌, ◌++◌, get_or, take, set, ℤ, pos, ◌+ℤ◌, sym, refl, ap, ◌∙◌, subst, arith, w32, SFits, rules}
use Rattle.std.proofs.lemmas.List.{length-set, take_more}
use Rattle.std.proofs.lemmas.Int.{to_z-of_z}
use Rattle.std.proofs.lemmas.Bool.{cond_below}
use Rattle.bits.specs.Bit.{with_bit}
use Rattle.masks.specs.Points.{origin}
use Rattle.masks.specs.Rows.{Drawn}
use Rattle.masks.proofs.Grids.{drawn_none, drawn_more}
use Rattle.masks.proofs.mask.drawn.Goals as goal

pub loop-p-init : goal.loop-p-init
loop-p-init c = (refl, drawn_none)

pub loop-p-preserved : goal.loop-p-preserved
loop-p-preserved c =
    let ps = c.args.list.now in
    let i = c.loop-p.p-index in
    let p = get_or ps i origin in
    let rows = c.loop-p.rows in
    let col = c.grid_place.result in
    let row = c.grid_place-r.result in
    let fu : SFits w32 p.u = search rules in
    let fv : SFits w32 p.v = search rules in
    let eu : p.u +ℤ pos 15 ≡ pos col = ap (λ (z : ℤ). z +ℤ pos 15) (sym (to_z-of_z w32 p.u fu)) ∙ c.grid_place.ensures.place in
    let ev : p.v +ℤ pos 15 ≡ pos row = ap (λ (z : ℤ). z +ℤ pos 15) (sym (to_z-of_z w32 p.v fv)) ∙ c.grid_place-r.ensures.place in
    let hc : col < 31 = c.grid_place.ensures.within in
    let w : c.with_bit.result ≡ with_bit col (get_or rows row 0) = c.with_bit.ensures ∙ sym (cond_below col 32 (with_bit col (get_or rows row 0)) (get_or rows row 0) (omega arith)) in (
      simp length-set c.loop-p.invariant.0,
      subst (Drawn (set rows row c.with_bit.result)) (sym (take_more ps i origin c.loop-p-test.true))
          (subst (λ (n : ℕ). Drawn (set rows row n) (take i ps ++ p ∷ [])) (sym w)
          (drawn_more rows (take i ps) p col row c.loop-p.invariant.0 hc c.grid_place-r.ensures.within eu ev c.loop-p.invariant.1)),
    )
