-- A turn ticks one chord's length.
use Rattle.std.proofs.Common.{◌<◌, Bool, true, List, length, get_or, set, pos, sym, refl, ◌∙◌, subst, ap₂, length-set}
use Rattle.masks.specs.declared.chord.Chord.{Chord}
use Rattle.masks.specs.Shown.{chords_in}
use Rattle.masks.proofs.Halving.{ticked_none, ticked_more}
use Rattle.masks.proofs.lengths.ticked.Goals as goal

abbrev none : Chord
none = record { v = pos 0; start = pos 0; length = 0 }

pub loop-c-init : goal.loop-c-init
loop-c-init c = (refl, sym ticked_none)

pub loop-c-preserved : goal.loop-c-preserved
loop-c-preserved c =
    let cs = chords_in c.args.chords.now in
    let i = c.loop-c.c-index in
    let e = c.as_slice-c-items.ensures.items in (
      simp length-set c.loop-c.invariant.0,
      ap₂ (λ (s : List Bool) (xs : List Chord). set s (get_or xs i none).length true) c.loop-c.invariant.1 e
          ∙ sym (ticked_more cs i none (subst (λ (xs : List Chord). i < length xs) e c.loop-c-test.true)),
    )
