-- Eight digits are the digits of the word, with zeros before them.
use Rattle.std.proofs.Common.{ℕ, ◌≡◌, [], true, false, ◌-◌, length, Some, ap, sym, arith}
use Rattle.std.specs.Fmt.{padded_integral, char_count, format_spec, digits, digits_output}
use Rattle.std.proofs.lemmas.List.{append-nil}
use Rattle.std.proofs.Output.{has_written_of_eq}
use Rattle.strips.specs.declared.kind.CellKind.{CellKind}
use Rattle.jobs.specs.Texts.{eight_digits, cell_text}
use Rattle.jobs.proofs.text.ToldCellDisplay.fmt.Goals as goal

nothing_off : (n : ℕ) → 8 - n - 0 - 0 ≡ 8 - n
nothing_off n = omega arith

zeros_before : (w : ℕ) → padded_integral (format_spec 32 0 4 8 18446744073709551615) false [] (digits 16 true w) ≡ eight_digits w
unfolding padded_integral char_count
zeros_before w = rw (nothing_off (length (digits 16 true w)), append-nil (digits 16 true w))

pub returns-in-Return-clause-writes : goal.returns-in-Return-clause-writes
returns-in-Return-clause-writes g c plain ok =
    let w = c.args.self.now.word in
    let capitals : digits_output c.in_radix.result ≡ Some (digits 16 true w) = c.in_radix.ensures in
    has_written_of_eq _ _ _ _ _ (ap (λ (k : CellKind). cell_text k w) (sym c.in-Return.is)) ((rw (c.laid_out.ensures, capitals, zeros_before w) at c.write-in-Return.ensures.writes) plain ok)
