-- The farthest rows lie where each row does.
use Rattle.std.proofs.Common.{subst, take}
use Rattle.std.specs.List.{AllByRecursion}
use Rattle.std.proofs.ByRecursion.{All-weaker, All-take}
use Rattle.masks.specs.Chords.{OnGrid, Near}
use Rattle.masks.specs.Shown.{chords_in}
use Rattle.masks.proofs.CostBounds.{farthest_near}
use Rattle.masks.proofs.chord.ChordList.extent.Goals as goal

pub returns-clause-around : goal.returns-clause-around
returns-clause-around c =
    let passed = take c.loop-c.c-index (chords_in c.args.self.now) in
    let on_grid = All-take OnGrid c.loop-c.c-index (chords_in c.args.self.now) (subst (λ cs. AllByRecursion OnGrid cs) c.as_slice-c-items.ensures.items c.as_slice-c-items.ensures.on_grid) in
    let near = farthest_near (λ ch. ch.v) passed (All-weaker OnGrid (λ ch. Near ch.v) (λ ch p. p.1) passed on_grid) in
    rw (c.loop-c.invariant.0, c.loop-c.invariant.1) near
