-- A row adds its chords, at most 16.
use Rattle.std.proofs.Common.{◌≡◌, ℕ, List, ◌++◌, map, take, sym, refl, ap, ◌∙◌, subst, arith}
use Rattle.std.specs.List.{AllByRecursion}
use Rattle.masks.specs.Chords.{starts, chord_at, chords, OnGrid}
use Rattle.masks.specs.declared.chord.Chord.{Chord}
use Rattle.masks.proofs.Runs.{chords_none, chords_more, starts_few, all_runs, chords_on_grid}
use Rattle.masks.proofs.chord.ChordList.of.Goals as goal

pub loop-r-init : goal.loop-r-init
loop-r-init c = (refl, omega arith, sym (chords_none c.args.mask.now.rows))

pub loop-r-preserved : goal.loop-r-preserved
loop-r-preserved c =
    let rows = c.args.mask.now.rows in
    let r = c.loop-r.r in (
      c.add_row-count.array_long,
      (let few = starts_few rows r 31 in omega (arith, c.add_row-count.ensures.answer, c.loop-r.invariant.1)),
      c.add_row-count.ensures.after
          ∙ ap (λ (l : List Chord). l ++ map (chord_at rows r) (starts rows r 31)) c.loop-r.invariant.2
          ∙ sym (chords_more rows r),
    )

-- after 31 rows the list has all chords
all : (rows : List ℕ) (list : List Chord) (count r : ℕ) → r ≡ 31 → take count list ≡ chords rows r → take count list ≡ chords rows 31
all rows list count r e h = subst (λ (n : ℕ). take count list ≡ chords rows n) e h

pub invariant_of-result : goal.invariant_of-result
invariant_of-result c =
    let rows = c.args.mask.now.rows in
    record {
      few = omega (arith, c.loop-r.invariant.1);
      on_grid = subst (AllByRecursion OnGrid) (sym (all rows c.loop-r.list c.loop-r.count c.loop-r.r (omega arith) c.loop-r.invariant.2)) (chords_on_grid rows);
    }

pub returns : goal.returns
returns c =
    let rows = c.args.mask.now.rows in
    record { list = all rows c.loop-r.list c.loop-r.count c.loop-r.r (omega arith) c.loop-r.invariant.2; runs = all_runs rows }
