use Rattle.std.proofs.Common.{◌≡◌, ◌+◌, ◌++◌, map, length, take}
use Rattle.masks.specs.Chords.{starts, chord_at}
use Rattle.masks.proofs.mask.Mask.add_row.Given as goal

-- the chords that start in the columns passed stand behind those that were there
abbrev pub invariant-loop-c : goal.invariant-loop-c
invariant-loop-c l = (length l.list ≡ 496) × (l.n ≡ l.count + length (starts l.self.rows l.r l.c)) ×
    (take l.n l.list ≡ take l.count l.initial.list ++ map (chord_at l.self.rows l.r) (starts l.self.rows l.r l.c))
