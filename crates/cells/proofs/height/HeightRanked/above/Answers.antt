-- The numbers of two cells decide which is strictly above.
use Rattle.std.proofs.Common.{◌∙◌, arith, w32, SFits, rules}
use lib.Signed.{lt_z}
use Rattle.std.proofs.lemmas.Int.{ints}
use Rattle.std.proofs.lemmas.Bool.Decides.{Decides-at}
use Rattle.cells.specs.Kinds.{height_bounds}
use Rattle.cells.proofs.Chains.{int_greater, above_decides, comparable}
use Rattle.cells.proofs.height.HeightRanked.above.Goals as goal

pub returns-clause-answer : goal.returns-clause-answer
returns-clause-answer c =
    let z = c.args.self.0 in
    let w = c.args.other.0 in
    let f : SFits w32 z = search rules in
    let g : SFits w32 w = search rules in
    Decides-at c.gt.result (lt_z w z) (c.gt.ensures ∙ int_greater z w)
    (above_decides height_bounds z w (omega (arith, ints)) (omega (arith, ints)) (omega (arith, ints)) (omega (arith, ints)))

pub returns-clause-comparable : goal.returns-clause-comparable
returns-clause-comparable c = comparable height_bounds
