-- Why a strip is refused.
--     ground_number g    the number of what is wrong with a word
--     number f           the number of a refusal
--     told_word f        the word that it is told with
use Rattle.std.specs.Prelude.{ℕ}
use Rattle.strips.specs.declared.fault.Ground.{Ground}
use Rattle.strips.specs.declared.fault.Ground.TheVariants.{CutShort, NoWord, OutOfOrder, NoKind, WrongCount, NoCell}
use Rattle.strips.specs.declared.fault.StripFault.{StripFault}
use Rattle.strips.specs.declared.fault.StripFault.TheVariants.{TooLong, At}

abbrev pub ground_number : Ground → ℕ
ground_number CutShort = 2
ground_number NoWord = 3
ground_number OutOfOrder = 4
ground_number NoKind = 5
ground_number WrongCount = 5
ground_number NoCell = 6

abbrev pub number : StripFault → ℕ
number TooLong = 1
number (At g i) = ground_number g

-- words count from 0; 65,536 bytes are words 0 to 16,383
abbrev pub told_word : StripFault → ℕ
told_word TooLong = 16384
told_word (At g i) = i
