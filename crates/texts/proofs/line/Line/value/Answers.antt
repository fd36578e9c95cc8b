-- The word that stands alone is read as its type reads it.
use Rattle.std.proofs.Common.{Some, None, refl, subst}
use Rattle.texts.specs.Settings.{IsAlone}
use Rattle.texts.proofs.line.Line.value.Goals as goal

pub returns-in-Some : goal.returns-in-Some
returns-in-Some g c =
    (Some c.in-Some.word, subst (IsAlone c.args.self.text.now) c.in-Some.is c.alone.ensures, (c.parse.result, c.parse.ensures.value, c.ok.ensures.value))

pub returns-in-None : goal.returns-in-None
returns-in-None g c = (None, subst (IsAlone c.args.self.text.now) c.in-None.is c.alone.ensures, refl)
