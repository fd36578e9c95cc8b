-- The numbers of two cells decide which is strictly above.
use Rattle.std.proofs.Common.{◌∙◌, pos, arith}
use lib.Signed.{lt_z}
use Rattle.std.proofs.lemmas.Int.{ints}
use Rattle.std.proofs.lemmas.Bool.Decides.{Decides-at}
use Rattle.cells.specs.Kinds.{gray_bounds}
use Rattle.cells.proofs.Chains.{nat_greater, above_decides, comparable}
use Rattle.cells.proofs.gray.GrayRanked.above.Goals as goal

pub returns-clause-answer : goal.returns-clause-answer
returns-clause-answer c =
    let a = c.args.self.0 in
    let b = c.args.other.0 in
    Decides-at c.gt.result (lt_z (pos b) (pos a)) (c.gt.ensures ∙ nat_greater a b)
    (above_decides gray_bounds (pos a) (pos b) (omega (arith, ints)) (omega (arith, ints)) (omega (arith, ints)) (omega (arith, ints)))

pub returns-clause-comparable : goal.returns-clause-comparable
returns-clause-comparable c = comparable gray_bounds
