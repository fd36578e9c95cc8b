-- A turn applies the rule to the next number down.
use Rattle.std.proofs.Common.{◌≡◌, ℕ, ◌+◌, ◌-◌, ◌<◌, ◌≤◌, Bool, List, sym, ap, ◌∙◌, arith, length-set}
use Rattle.masks.specs.Lengths.{halved_at}
use Rattle.masks.proofs.Halving.{halved_down, halved_down_more, halved_down_all, at_joins, at_stays}
use Rattle.masks.proofs.lengths.halved.Goals as goal

-- the ticks as the turn for a finds them, and as the rule for a leaves them
step : (start ticks : List Bool) (a b : ℕ) → a ≡ b + 1 → a - 1 ≡ b → 2 ≤ b → b < 32 → ticks ≡ halved_down start a → halved_at ticks b ≡ halved_down start (a - 1)
step start ticks a b e f l h i =
    ap (λ (s : List Bool). halved_at s b) (i ∙ ap (halved_down start) e) ∙ sym (halved_down_more start b h) ∙ ap (halved_down start) (sym f)

pub loop-a-preserved : goal.loop-a-preserved
loop-a-preserved c =
    let a = c.loop-a.a in (
      c.loop-a.invariant.0,
      sym (at_stays c.loop-a.ticks (a - 1) (sym c.if-wants-half.ensures))
          ∙ step c.args.start c.loop-a.ticks a (a - 1) (omega arith) (omega arith) (omega arith) (omega arith) c.loop-a.invariant.1,
      omega arith,
    )

pub loop-a-preserved-then-wants-half : goal.loop-a-preserved-then-wants-half
loop-a-preserved-then-wants-half c =
    let a = c.loop-a.a in (
      simp length-set c.loop-a.invariant.0,
      sym (at_joins c.loop-a.ticks (a - 1) (sym c.if-wants-half.ensures))
          ∙ step c.args.start c.loop-a.ticks a (a - 1) (omega arith) (omega arith) (omega arith) (omega arith) c.loop-a.invariant.1,
      omega arith,
    )

pub returns : goal.returns
returns c =
    let e : c.loop-a.a ≡ 2 = omega arith in
    c.loop-a.invariant.1 ∙ ap (halved_down c.args.start) e ∙ halved_down_all c.args.start
