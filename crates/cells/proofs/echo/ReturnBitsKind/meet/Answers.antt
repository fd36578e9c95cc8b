-- The bits of the lower rank count as the return of the lower rank.
use Rattle.std.proofs.Common.{◌≤ℤ◌, ap, ◌∙◌, arith}
use Rattle.std.proofs.lemmas.Int.{ints}
use Rattle.cells.specs.Kinds.{rank, counted, return_bounds, return_cell}
use Rattle.cells.specs.declared.echo.ReturnBits.{ReturnBits}
use Rattle.cells.proofs.Chains.{smaller_first, smaller_second}
use Rattle.cells.proofs.Echoes.{return_same, counted_in_order}
use Rattle.cells.proofs.echo.ReturnBitsKind.meet.Goals.{then-rank_of, else-rank_of}
use Rattle.cells.proofs.echo.ReturnBitsKind.meet.Goals as goal

pub returns : goal.returns
returns c =
    let self = c.args.self.0 in
    let other = c.args.other.0 in
    let made = return_same c.if-rank_of.lower.0 c.from-2.result.0 (c.from-2.ensures ∙ c.from.ensures) in
    elim c.if-rank_of.branch [
      | then-rank_of w ↦
          let l : rank other ≤ℤ rank self = omega (arith, ints, c.rank_of.ensures, c.rank_of-2.ensures, w.if-rank_of) in
          made ∙ ap (λ (b : ReturnBits). return_cell b.0) w.lower-is ∙ smaller_second return_bounds (rank (counted self)) (rank (counted other)) (counted_in_order other self l)
      | else-rank_of w ↦
          let l : rank self ≤ℤ rank other = omega (arith, ints, c.rank_of.ensures, c.rank_of-2.ensures, w.if-rank_of) in
          made ∙ ap (λ (b : ReturnBits). return_cell b.0) w.lower-is ∙ smaller_first return_bounds (rank (counted self)) (rank (counted other)) (counted_in_order self other l)
    ]
