-- What the lists of a mask show: the first of their arrays, as many as they count.
--     chords_in l     the chords of a list of chords
--     lengths_in l    the lengths of a length list
use Rattle.std.specs.Prelude.{ℕ, List, take}
use Rattle.masks.specs.declared.chord.Chord.{Chord}
use Rattle.masks.specs.declared.chord.ChordList.{ChordList}
use Rattle.masks.specs.declared.lengths.LengthList.{LengthList}

-- the chords
abbrev pub chords_in : ChordList → List Chord
chords_in l = take l.count l.list

-- the lengths
abbrev pub lengths_in : LengthList → List ℕ
lengths_in l = take l.count l.list
