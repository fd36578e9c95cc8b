-- Of 32 bits in the opposite order, those from the second on are the 31 low bits in the opposite order.
use Rattle.masks.proofs.Turns.{reversed_bit}
use Rattle.std.proofs.Common.{◌/◌, ap, ◌∙◌}
use Rattle.bits.specs.Bit.{bit}
use Rattle.masks.proofs.mask.reversed.Goals as goal

pub returns : goal.returns
returns c k h = ap (λ n. bit k (n / 2)) c.reverse_bits.ensures ∙ reversed_bit c.args.word k h
