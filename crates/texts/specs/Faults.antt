-- How what kept a program from its work is told, byte by byte.
--     sheet_text f w     why a sheet cannot be taken in, with the words w for its cells, if there are some
--     fault_text f w     what kept the program whose words are w from its work
use Rattle.std.specs.Prelude.{ℕ, List, [], ◌++◌, codes, Some, None, Option}
use Rattle.std.specs.Borrow.{Bor}
use Rattle.std.specs.Fmt.{decimal}
use Rattle.drawings.specs.Told.{drawn_text}
use Rattle.texts.specs.Parts.{missing_text}
use Rattle.texts.specs.Told.{size_text}
use Rattle.texts.specs.declared.fault.JobFault.{JobFault}
use Rattle.texts.specs.declared.fault.JobFault.TheVariants.{Arguments, Missing, Sheet, Drawn, NotAs, Input, Unwritten, Memory}
use Rattle.texts.specs.declared.fault.Words.{Words}
use Rattle.texts.specs.declared.input.InputFault.{InputFault}
use Rattle.texts.specs.declared.input.InputFault.TheVariants as inputs
use Rattle.texts.specs.declared.sheet.SheetFault.{SheetFault}
use Rattle.texts.specs.declared.sheet.SheetFault.TheVariants as sheets

abbrev pub memory_text : List ℕ
memory_text = codes "there is not enough memory"

-- what the cells are is told where a program has words for them
abbrev pub sheet_text : SheetFault → Option (Bor (List ℕ)) → List ℕ
sheet_text (sheets.NoCell n) (Some w) = codes "line " ++ decimal n ++ codes ": a row of the sheet has " ++ w.now
sheet_text (sheets.NoCell n) None = codes "line " ++ decimal n ++ codes ": a word is no cell"
sheet_text (sheets.UnlikeRow n) w = codes "line " ++ decimal n ++ codes ": this row has not as many cells as the first"
sheet_text (sheets.WrongSize s) w = size_text s.0
sheet_text sheets.Memory w = memory_text

-- and the parts of a job where it has parts
abbrev pub parts_text : Option (Bor (List ℕ)) → List ℕ
parts_text None = []
parts_text (Some w) = codes "; a job has " ++ w.now ++ codes ", in this order"

abbrev pub input_text : InputFault → Words → List ℕ
input_text inputs.NoText w = w.no_text.now
input_text inputs.Unread w = w.unread.now
input_text inputs.Memory w = memory_text

abbrev pub fault_text : JobFault → Words → List ℕ
fault_text (Arguments t) w = t.now
fault_text (Missing m) w = missing_text m ++ parts_text w.parts
fault_text (Sheet f) w = sheet_text f w.cells
fault_text (Drawn f) w = drawn_text f
fault_text (NotAs n t) w = codes "line " ++ decimal n ++ codes ": " ++ t.now
fault_text (Input f) w = input_text f w
fault_text Unwritten w = w.unwritten.now
fault_text Memory w = memory_text
