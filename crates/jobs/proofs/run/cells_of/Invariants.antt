-- The cells of the words so far.
use Rattle.std.proofs.Common.{◌≡◌, map, take}
use Rattle.strips.specs.Words.{numbers}
use Rattle.jobs.specs.Listings.{cells_by}
use Rattle.jobs.proofs.run.cells_of.Given as goal

abbrev pub invariant-loop-word : goal.invariant-loop-word
invariant-loop-word g l = map g.K.Kind.means l.cells.items ≡ map (cells_by g.K.Kind.lattice g.K.Kind.means g.K.WordForm.reads) (numbers (take l.word-index l.word-items))
