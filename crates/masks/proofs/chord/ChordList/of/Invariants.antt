use Rattle.std.proofs.Common.{◌≡◌, ◌*◌, ◌≤◌, length, take}
use Rattle.masks.specs.Chords.{chords}
use Rattle.masks.proofs.chord.ChordList.of.Given as goal

-- the chords of the rows passed stand in the list
abbrev pub invariant-loop-r : goal.invariant-loop-r
invariant-loop-r l = (length l.list ≡ 496) × (l.count ≤ 16 * l.r) × (take l.count l.list ≡ chords l.mask.rows l.r)
