-- A column more is listed, where it is a hit.
use Rattle.std.proofs.Common.{◌≡◌, ℕ, ◌+◌, List, [], ◌∷◌, ◌++◌, length, set, sym, refl, ◌∙◌, subst, ap₂, subst₂, arith}
use Rattle.std.proofs.lemmas.Iterator.{YieldsList-from_slice, YieldsList-from_zip}
use Rattle.std.proofs.lemmas.Iterator.Consumers.{YieldsList-from_enumerate, YieldsList-turn}
use Rattle.std.proofs.lemmas.List.{length_push}
use Rattle.cells.specs.Lattice.{Above}
use Rattle.morphology.specs.declared.place.Place.{Place}
use Rattle.filters.specs.Find.{RowHits}
use Rattle.filters.proofs.Hits.{row_hit, row_pass, pair_at}
use Rattle.filters.proofs.Notes.{note_append}
use Rattle.filters.proofs.find.list_row.Goals as goal

pub loop-x-preserved-then-is_hit : goal.loop-x-preserved-then-is_hit
loop-x-preserved-then-is_hit g c =
    let k = g.K.Kind.lattice in
    let f = g.K.Kind.means in
    let n = length c.loop-x.yielded in
    let fores = c.args.fores.now in
    let backs = c.args.backs.now in
    let t = YieldsList-turn (YieldsList-from_enumerate (YieldsList-from_zip (YieldsList-from_slice fores cc) (YieldsList-from_slice backs cc)) cc) c.loop-x.yielded c.loop-x.x-iterator c.loop-x.yielded_by c.next.result c.next.new.self (c.in-Some.x, (c.in-Some.fore, c.in-Some.back)) c.in-Some.is c.next.ensures.steps in
    let here = pair_at f k.least k.greatest fores backs n c.in-Some.x c.in-Some.fore.now c.in-Some.back.now c.requires.sizes.0 t.0 t.1 in
    let more = length_push c.loop-x.yielded (c.in-Some.x, (c.in-Some.fore, c.in-Some.back)) in
    let qs = c.loop-x.invariant.1.0 in
    let p : Place = record { x = c.in-Some.x; y = c.args.y } in
    let a : Above k (f c.in-Some.fore.now) (f c.in-Some.back.now) = c.if-is_hit.ensures.0 refl in
    let long : length (qs ++ p ∷ []) ≡ length qs + 1 = length_push qs p in
    let above = subst₂ (Above k) (sym here.1) (sym here.2) a in (
      omega (arith, c.loop-x.invariant.0, more),
      (
        qs ++ p ∷ [],
        subst (λ (m : ℕ). RowHits k f c.args.y fores backs m (qs ++ p ∷ [])) (sym more) (row_hit k f c.args.y fores backs n qs c.loop-x.invariant.1.1 p here.0 refl above),
        omega (arith, c.loop-x.invariant.1.2, long),
        c.write.ensures ∙ ap₂ (λ (l : List Place) (m : ℕ). set l m p) c.loop-x.invariant.1.3 c.loop-x.invariant.1.2 ∙ sym (note_append c.args.before qs (p ∷ []) c.args.places.now),
      ),
    )

pub loop-x-preserved : goal.loop-x-preserved
loop-x-preserved g c =
    let k = g.K.Kind.lattice in
    let f = g.K.Kind.means in
    let n = length c.loop-x.yielded in
    let fores = c.args.fores.now in
    let backs = c.args.backs.now in
    let t = YieldsList-turn (YieldsList-from_enumerate (YieldsList-from_zip (YieldsList-from_slice fores cc) (YieldsList-from_slice backs cc)) cc) c.loop-x.yielded c.loop-x.x-iterator c.loop-x.yielded_by c.next.result c.next.new.self (c.in-Some.x, (c.in-Some.fore, c.in-Some.back)) c.in-Some.is c.next.ensures.steps in
    let here = pair_at f k.least k.greatest fores backs n c.in-Some.x c.in-Some.fore.now c.in-Some.back.now c.requires.sizes.0 t.0 t.1 in
    let more = length_push c.loop-x.yielded (c.in-Some.x, (c.in-Some.fore, c.in-Some.back)) in
    let qs = c.loop-x.invariant.1.0 in (
      omega (arith, c.loop-x.invariant.0, more),
      (
        qs,
        subst (λ (m : ℕ). RowHits k f c.args.y fores backs m qs) (sym more)
            (row_pass k f c.args.y fores backs n qs c.loop-x.invariant.1.1 (λ a. let z = c.if-is_hit.ensures.1 (subst₂ (Above k) here.1 here.2 a) in cc)),
        c.loop-x.invariant.1.2,
        c.loop-x.invariant.1.3,
      ),
    )
