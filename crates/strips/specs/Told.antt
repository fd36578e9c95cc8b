-- How a refusal of a strip is told, byte by byte.
--     ground_text g     what is wrong with a word
--     wrong_text f      what is wrong with a strip
--     fault_text f      a refusal, with its number and its word
use Rattle.std.specs.Prelude.{ℕ, List, ◌++◌, codes}
use Rattle.std.specs.Fmt.{decimal}
use Rattle.strips.specs.Faults.{number, told_word}
use Rattle.strips.specs.declared.fault.Ground.{Ground}
use Rattle.strips.specs.declared.fault.Ground.TheVariants.{CutShort, NoWord, OutOfOrder, NoKind, WrongCount, NoCell}
use Rattle.strips.specs.declared.fault.StripFault.{StripFault}
use Rattle.strips.specs.declared.fault.StripFault.TheVariants.{TooLong, At}

abbrev pub ground_text : Ground → List ℕ
ground_text CutShort = codes "a word is due, and fewer than four bytes stand there"
ground_text NoWord = codes "this is none of the words"
ground_text OutOfOrder = codes "this word is not due here"
ground_text NoKind = codes "there is no such kind of cell"
ground_text WrongCount = codes "the cells are not width times height"
ground_text NoCell = codes "the word is no cell of the head's kind"

abbrev pub wrong_text : StripFault → List ℕ
wrong_text TooLong = codes "a strip has at most 65536 bytes"
wrong_text (At g i) = ground_text g

abbrev pub fault_text : StripFault → List ℕ
fault_text f = codes "refused " ++ decimal (number f) ++ codes ": word " ++ decimal (told_word f) ++ codes ": " ++ wrong_text f
