-- What the plan needs of a table is what its mask needs.
use Rattle.std.proofs.Common.{ℕ, ◌*◌, ◌+◌, ◌<◌, ◌≤◌, List, length, sym, ap₂, arith}
use Rattle.plans.specs.Shown.{lengths_of}
use Rattle.filters.proofs.Verdicts.{judged_short, judged_ok}
use Rattle.filters.proofs.filter.admit.Goals as goal

pub returns-then-cells-needed-clause-verdict : goal.returns-then-cells-needed-clause-verdict
returns-then-cells-needed-clause-verdict c =
    let p = c.args.plan.now in
    let lines = ap₂ (λ (l : List ℕ) (n : ℕ). p.rows * length l * n) c.as_slice.ensures.items c.stride.ensures in
    let less : c.args.cells < p.rows * length (lengths_of p) * (c.args.size.width + 30) = omega (arith, lines, c.if-cells-needed.true) in
    λ m ps P. rw (c.as_slice.ensures.items, c.stride.ensures) (judged_short c.args.size.width c.args.size.height m c.args.cells ps p P (sym c.if-not-can_filter.ensures) less)

pub returns-clause-verdict : goal.returns-clause-verdict
returns-clause-verdict c =
    let p = c.args.plan.now in
    let lines = ap₂ (λ (l : List ℕ) (n : ℕ). p.rows * length l * n) c.as_slice.ensures.items c.stride.ensures in
    let room : p.rows * length (lengths_of p) * (c.args.size.width + 30) ≤ c.args.cells = omega (arith, lines, c.if-cells-needed.false) in
    λ m ps P. judged_ok c.args.size.width c.args.size.height m c.args.cells ps p P (sym c.if-not-can_filter.ensures) room
