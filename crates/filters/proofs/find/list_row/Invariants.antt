-- The columns passed are listed.
use Rattle.std.proofs.Common.{◌≡◌, ◌+◌, ◌≤◌, List, length}
use Rattle.morphology.specs.declared.place.Place.{Place}
use Rattle.filters.specs.Find.{note, RowHits}
use Rattle.filters.proofs.find.list_row.Given as goal

abbrev pub invariant-loop-x : goal.invariant-loop-x
invariant-loop-x g l =
    (l.hits ≤ l.before + length l.yielded) ×
    ((qs : List Place) × RowHits g.K.Kind.lattice g.K.Kind.means l.y l.fores l.backs (length l.yielded) qs × (l.hits ≡ l.before + length qs) × (l.places ≡ note l.before qs l.initial.places))
