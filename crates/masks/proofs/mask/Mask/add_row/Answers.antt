-- A column where a chord starts adds that chord.
use Rattle.std.proofs.Common.{ℕ, ◌<◌, List, [], ◌∷◌, ◌++◌, map, length, take, sym, ap, ◌∙◌, ap₂, arith, rules}
use Rattle.std.proofs.lemmas.List.{append-nil, append_assoc, length-set, take_more_set, map_push}
use Rattle.masks.specs.Chords.{starts, chord_at}
use Rattle.masks.specs.declared.chord.Chord.{Chord}
use Rattle.masks.proofs.Runs.{starts_none, starts_yes, starts_no, length_starts_yes, starts_room}
use Rattle.masks.proofs.mask.Mask.add_row.Goals as goal
use Rattle.masks.proofs.mask.Mask.add_row.Goals.{then-starts, else-starts}

pub loop-c-init : goal.loop-c-init
loop-c-init c =
    let rows = c.args.self.now.rows in
    let r = c.args.r in
    let none = starts_none rows r in
    let front = take c.args.count c.args.list.now in (
      search rules,
      (let e = ap length none in omega arith),
      sym (ap (λ (l : List ℕ). front ++ map (chord_at rows r) l) none ∙ append-nil front),
    )

-- there is room for the chord that starts here
room : (c : goal.After-chord_at) → c.loop-c.n < 496
room c =
    let few = starts_room c.args.self.now.rows c.args.r c.loop-c.c c.loop-c-test.true (sym c.if-starts.ensures) in
    omega (arith, c.requires.1, c.loop-c.invariant.1)

pub offset_bounds-list-n : goal.offset_bounds-list-n
offset_bounds-list-n c = let l = room c in omega arith

pub bounds-list-n : goal.bounds-list-n
bounds-list-n c = room c

pub overflow_add-n : goal.overflow_add-n
overflow_add-n c = let l = room c in omega arith

pub loop-c-preserved : goal.loop-c-preserved
loop-c-preserved c =
    let rows = c.args.self.now.rows in
    let r = c.args.r in
    let col = c.loop-c.c in
    let list = c.loop-c.list in
    let n = c.loop-c.n in
    let front = take c.args.count c.args.list.now in
    let f = chord_at rows r in
    elim c.if-starts.branch [
      | then-starts w ↦
          let here = sym w.if-starts.ensures in
          let few = starts_room rows r col c.loop-c-test.true here in
          let long : n < length list = omega (arith, c.requires.1, c.loop-c.invariant.0, c.loop-c.invariant.1) in (
            ap length w.list-is ∙ (simp length-set c.loop-c.invariant.0),
            (let more = length_starts_yes rows r col here in omega (arith, w.n-is, c.loop-c.invariant.1)),
            ap₂ take w.n-is w.list-is
                ∙ take_more_set list n w.chord_at.result long
                ∙ ap₂ (λ (l : List Chord) (ch : Chord). l ++ ch ∷ []) c.loop-c.invariant.2 w.chord_at.ensures
                ∙ append_assoc front (map f (starts rows r col)) (f col ∷ [])
                ∙ ap (λ (l : List Chord). front ++ l) (sym (map_push f (starts rows r col) col))
                ∙ ap (λ (l : List ℕ). front ++ map f l) (sym (starts_yes rows r col here)),
          )
      | else-starts w ↦
          let same = starts_no rows r col (sym w.if-starts.ensures) in (
            ap length w.list-is ∙ c.loop-c.invariant.0,
            (let l = ap length same in omega (arith, w.n-is, c.loop-c.invariant.1)),
            ap₂ take w.n-is w.list-is ∙ c.loop-c.invariant.2 ∙ ap (λ (l : List ℕ). front ++ map f l) (sym same),
          )
    ]
