-- A marked column adds one.
use Rattle.std.proofs.Common.{ℕ, Bool, cond, sym, ap, arith}
use Rattle.masks.proofs.Grids.{length_columns_none, length_columns_more}
use Rattle.masks.proofs.mask.Mask.row_count.Goals as goal
use Rattle.masks.proofs.mask.Mask.row_count.Goals.{then-marked, else-marked}

pub loop-c-init : goal.loop-c-init
loop-c-init c = (sym (length_columns_none c.args.self.now.rows c.args.r), omega arith)

pub loop-c-preserved : goal.loop-c-preserved
loop-c-preserved c =
    let more = length_columns_more c.args.self.now.rows c.args.r c.loop-c.c in
    elim c.if-marked.branch [
      | then-marked w ↦
          let one = ap (λ (b : Bool). cond {A = ℕ} b 1 0) (sym w.if-marked.ensures) in
          (omega (arith, c.loop-c.invariant.0, w.n-is), omega (arith, c.loop-c.invariant.1, w.n-is))
      | else-marked w ↦
          let none = ap (λ (b : Bool). cond {A = ℕ} b 1 0) (sym w.if-marked.ensures) in
          (omega (arith, c.loop-c.invariant.0, w.n-is), omega (arith, c.loop-c.invariant.1, w.n-is))
    ]
