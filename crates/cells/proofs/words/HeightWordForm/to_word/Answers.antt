-- Two's complement, there and back.
use Rattle.std.proofs.Common.{◌≡◌, ℕ, ℤ, Some, ap, ◌∙◌, w32, SFits, of_z, rules}
use Rattle.std.proofs.lemmas.Int.{to_z-of_z}
use Rattle.cells.specs.Kinds.{height_cell}
use Rattle.cells.specs.Words.{signed, unsigned}
use Rattle.cells.proofs.WordTrips.{unsigned_bits, signed_unsigned}
use Rattle.cells.proofs.words.HeightWordForm.to_word.Goals as goal

pub returns-clause-again : goal.returns-clause-again
returns-clause-again c =
    let z = c.args.self.0 in
    let f : SFits w32 z = search rules in
    let e : c.cast_unsigned.result ≡ unsigned z = c.cast_unsigned.ensures ∙ ap (of_z w32) (to_z-of_z w32 z f) ∙ unsigned_bits z in
    ap (λ (n : ℕ). Some (height_cell (signed n))) e ∙ ap (λ (y : ℤ). Some (height_cell y)) (signed_unsigned z f)
