-- The ranks of two returns decide which is strictly above.
use Rattle.std.proofs.Common.{◌≡◌, ap, ◌∙◌, ap₂, w32, SFits, rules}
use lib.Signed.{lt_z}
use Rattle.std.proofs.lemmas.Int.{to_z-of_z}
use Rattle.std.proofs.lemmas.Bool.Decides.{Decides-at}
use Rattle.cells.specs.Kinds.{rank, counted, return_bounds}
use Rattle.cells.proofs.Chains.{above_decides, comparable}
use Rattle.cells.proofs.Echoes.{counted_low, counted_high}
use Rattle.cells.proofs.echo.ReturnBitsRanked.above.Goals as goal

pub returns : goal.returns
returns c =
    let self = c.args.self.0 in
    let other = c.args.other.0 in
    let f : SFits w32 c.rank.result = search rules in
    let g : SFits w32 c.rank-2.result = search rules in
    let a : c.rank.result ≡ rank (counted self) = c.rank.ensures ∙ ap rank c.from.ensures in
    let b : c.rank-2.result ≡ rank (counted other) = c.rank-2.ensures ∙ ap rank c.from-2.ensures in
    record {
      answer =
          simp to_z-of_z
          (Decides-at (lt_z c.rank-2.result c.rank.result) (lt_z (rank (counted other)) (rank (counted self))) (ap₂ lt_z b a)
          (above_decides return_bounds (rank (counted self)) (rank (counted other)) (counted_low self) (counted_high self) (counted_low other) (counted_high other)));
      comparable = comparable return_bounds;
    }
