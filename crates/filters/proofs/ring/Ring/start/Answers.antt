-- So many slots stand before it.
use Rattle.std.proofs.Common.{ℕ, ◌+◌, ◌*◌, length, sym, ap, ◌∙◌, mul_assoc}
use Rattle.plans.specs.Shown.{lengths_of}
use Rattle.filters.proofs.ring.Ring.start.Goals as goal

pub returns : goal.returns
returns g c =
    let r = c.args.self.now in
    ap (λ (n : ℕ). r.slot * n) c.slot_cells.ensures ∙ sym (mul_assoc r.slot (length (lengths_of r.course.plan)) (r.course.width + 30))
