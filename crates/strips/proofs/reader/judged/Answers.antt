-- The words that are read are those of the bytes.
use Rattle.std.proofs.Common.{◌/◌, length, refl, subst, ◌∙◌, ap}
use Rattle.strips.specs.Words.{numbers}
use Rattle.strips.specs.Views.{Reads}
use Rattle.strips.proofs.Bytes.{chunks_words}
use Rattle.strips.proofs.Trips.{short_reading}
use Rattle.strips.proofs.reader.judged.Goals as goal

pub returns : goal.returns
returns c =
    let bs = c.args.bytes.now in
    let ws = ap numbers c.as_chunks.ensures.front ∙ chunks_words (length bs / 4) bs refl in
    subst (λ r. Reads r c.read_words.result) (short_reading bs (numbers c.as_chunks.result.0.now) (length c.as_chunks.result.1.now) c.if-bytes-gt-MOST.false c.as_chunks.ensures.back_len ws) c.read_words.ensures
