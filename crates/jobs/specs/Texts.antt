-- The text of a listing, byte by byte.
--     eight_digits w     a word in eight hexadecimal digits
--     cell_text k w      a cell of the kind k by its word
--     row_text k ws      the cells of a row, with a blank between two
--     word_text o        the word that a refusal is told with, if there is one
--     why_text f         that something was refused, and why
--     refused_text n f   that what n names was refused, and why
--     line_text l        a line
--     text ls            lines, each ended by a line feed
use Rattle.std.specs.Prelude.{ℕ, List, [], ◌∷◌, ◌++◌, ◌-◌, codes, true, replicate, length, Some, None, Ok, Err, Option}
use Rattle.std.specs.List.{flat_map}
use Rattle.std.specs.Int.{w32, cast_signed}
use Rattle.std.specs.Fmt.{digits, decimal, signed_decimal}
use Rattle.morphology.specs.Calls.{filter_name}
use Rattle.strips.specs.Kinds.{kind_name}
use Rattle.strips.specs.declared.kind.CellKind.{CellKind}
use Rattle.strips.specs.declared.kind.CellKind.TheVariants as kinds
use Rattle.jobs.specs.Faults.{number, word, layer, layer_name}
use Rattle.jobs.specs.declared.fault.JobFault.{JobFault}
use Rattle.jobs.specs.declared.fault.JobFault.TheVariants as faults
use Rattle.jobs.specs.declared.line.Line.{Line}
use Rattle.jobs.specs.declared.line.Line.TheVariants.{Refused, Sheet, Mask, Call, Cells}

-- in capitals, with zeros (48) before them
abbrev pub eight_digits : ℕ → List ℕ
eight_digits w = replicate (8 - length (digits 16 true w)) 48 ++ digits 16 true w

-- a height with its sign, a return by its bits
abbrev pub cell_text : CellKind → ℕ → List ℕ
cell_text kinds.Gray w = decimal w
cell_text kinds.Height w = signed_decimal (cast_signed w32 w)
cell_text kinds.Flags w = decimal w
cell_text kinds.Return w = eight_digits w

-- cells with a blank before each
abbrev pub rest_text : CellKind → List ℕ → List ℕ
rest_text k ws = flat_map (λ w. codes " " ++ cell_text k w) ws

abbrev pub row_text : CellKind → List ℕ → List ℕ
row_text k [] = []
row_text k (w ∷ ws) = cell_text k w ++ rest_text k ws

abbrev pub word_text : Option ℕ → List ℕ
word_text None = []
word_text (Some w) = codes " word " ++ decimal w

abbrev pub why_text : JobFault → List ℕ
why_text f = codes " refused " ++ decimal (number f) ++ word_text (word f)

abbrev pub refused_text : List ℕ → JobFault → List ℕ
refused_text name f = name ++ why_text f

abbrev pub line_text : Line → List ℕ
line_text (Refused f) = refused_text (layer_name (layer f)) f
line_text (Sheet k s) = codes "sheet " ++ kind_name k ++ codes " " ++ decimal s.width ++ codes " " ++ decimal s.height
line_text (Mask p c) = codes "mask " ++ decimal p ++ codes " chords " ++ decimal c
line_text (Call q (Ok n)) = filter_name q ++ codes " " ++ decimal n
line_text (Call q (Err r)) = refused_text (filter_name q) (faults.Worksheet r)
line_text (Cells k r) = row_text k r

abbrev pub text : List Line → List ℕ
text ls = flat_map (λ l. line_text l ++ (10 ∷ [])) ls
