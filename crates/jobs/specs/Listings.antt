-- The listing of a job, line by line.
--     left_by k a s        the state after an act
--     line_of a s          the line of an act on the state s
--     left k xs s          the state after some acts
--     lines k xs s         their lines
--     word_at word o       the word of the cell o, if there is one
--     row word s y         row y of the sheet s, each cell by its word
--     rows kind word s     the lines of the rows, the northmost first
--     performed k word kind xs f   the listing of the acts xs on a new worksheet of the sheet f
--     Lists, ListsJob      the listing, of stored values that are named by words
--     listed j             the listing of a job
--     listing r            the listing of a strip that is read as r
use Rattle.std.specs.Prelude.{◌≡◌, ℕ, List, [], ◌∷◌, ◌++◌, map, length, Some, None, Ok, Err, Option, Result}
use Rattle.std.specs.List.{range_with_len, flat_map}
use Rattle.cells.specs.Lattice.{Lattice}
use Rattle.cells.specs.Kinds.{grays, heights, marks, returns, gray_cell, height_cell, marks_of, return_cell}
use Rattle.cells.specs.Words.{gray_word, height_word, flags_word, return_word}
use Rattle.masks.specs.Rows.{points}
use Rattle.masks.specs.Chords.{chords}
use Rattle.sheets.specs.Sheet.{Sheet, shown}
use Rattle.morphology.specs.Calls.{State, new, after, answered}
use Rattle.morphology.specs.Refusals.{sized}
use Rattle.morphology.specs.declared.call.Call.TheVariants as calls
use Rattle.strips.specs.Jobs.{Job}
use Rattle.strips.specs.declared.kind.CellKind.{CellKind}
use Rattle.strips.specs.declared.kind.CellKind.TheVariants as kinds
use Rattle.strips.specs.declared.fault.StripFault.{StripFault}
use Rattle.jobs.specs.Words.{cell_or_least, Names, gray_listed, height_listed, flags_listed, return_listed}
use Rattle.jobs.specs.Acts.{job_acts}
use Rattle.jobs.specs.Piles.{pile}
use Rattle.jobs.specs.declared.act.Act.{Act}
use Rattle.jobs.specs.declared.act.Act.TheVariants.{Run, Filter}
use Rattle.jobs.specs.declared.fault.JobFault.TheVariants as faults
use Rattle.jobs.specs.declared.line.Line.{Line}
use Rattle.jobs.specs.declared.line.Line.TheVariants.{Refused, Sheet as SheetLine, Mask as MaskLine, Call, Cells}

-- a filter is called with a table of 16,384 cells; a mask that cannot be made changes nothing
abbrev pub left_by : {C : Type 0} → Lattice C → Act → State C → State C
left_by k (Run (Ok m)) s = after k (calls.Lay m) s
left_by k (Run (Err f)) s = s
left_by k (Filter q) s = after k (calls.Apply q 16384) s

-- of a mask that is laid, its points and its chords; of a filter, its picks or its refusal
abbrev pub line_of : {C : Type 0} → Act → State C → Line
line_of (Run (Ok m)) s = MaskLine (length (points m.rows 31)) (length (chords m.rows 31))
line_of (Run (Err f)) s = Refused (faults.Mask f)
line_of (Filter q) s = Call q (answered q 16384 s)

abbrev pub left : {C : Type 0} → Lattice C → List Act → State C → State C
left k [] s = s
left k (x ∷ xs) s = left k xs (left_by k x s)

abbrev pub lines : {C : Type 0} → Lattice C → List Act → State C → List Line
lines k [] s = []
lines k (x ∷ xs) s = line_of x s ∷ lines k xs (left_by k x s)

-- a place without a cell has no word
abbrev pub word_at : {C : Type 0} → (C → ℕ) → Option C → List ℕ
word_at word None = []
word_at word (Some c) = word c ∷ []

abbrev pub row : {C : Type 0} → (C → ℕ) → Sheet C → ℕ → List ℕ
row word s y = flat_map (λ x. word_at word (s.cell x y)) (range_with_len 0 s.width)

abbrev pub rows : {C : Type 0} → CellKind → (C → ℕ) → Sheet C → List Line
rows kind word s = map (λ y. Cells kind (row word s y)) (range_with_len 0 s.height)

-- the size of the sheet, then the acts in order, then the rows of what they leave
abbrev pub performed : {C : Type 0} → Lattice C → (C → ℕ) → CellKind → List Act → Sheet C → List Line
performed k word kind xs f =
    SheetLine kind (sized f.width f.height) ∷ [] ++ lines k xs (new f) ++ rows kind word (left k xs (new f)).sheet

-- ls is the listing of the acts xs on a new worksheet of the sheet s of stored values, which f reads and the words g name
abbrev pub Lists : {K C : Type 0} → Lattice C → (K → C) → (K → ℕ) → CellKind → List Act → Sheet K → List Line → Type 0
Lists {C = C} k f g kind xs s ls = (named : C → ℕ) → Names f g named → ls ≡ performed k named kind xs (shown f s)

-- the cells of raw words, as the kind reads them
abbrev pub cells_by : {K C : Type 0} → Lattice C → (K → C) → (ℕ → Option K) → ℕ → C
cells_by k f reads w = cell_or_least k f (reads w)

-- ls is the listing of the acts xs on the topmost of the job j
abbrev pub ListsJob : {K C : Type 0} → Lattice C → (K → C) → (ℕ → Option K) → (K → ℕ) → List Act → Job → List Line → Type 0
ListsJob {C = C} k f reads g xs j ls = (named : C → ℕ) → Names f g named → ls ≡ performed k named j.kind xs (shown (cells_by k f reads) (pile j))

-- the acts of a job on its topmost sheet, with each raw word as a cell
abbrev pub listed_by : {C : Type 0} → Lattice C → (ℕ → C) → (C → ℕ) → Job → List Line
listed_by k cell word j = performed k word j.kind (job_acts j) (shown cell (pile j))

abbrev pub listed_as : CellKind → Job → List Line
listed_as kinds.Gray j = listed_by grays (cells_by grays (λ g. gray_cell g.0) gray_word) gray_listed j
listed_as kinds.Height j = listed_by heights (cells_by heights (λ h. height_cell h.0) height_word) height_listed j
listed_as kinds.Flags j = listed_by marks (cells_by marks (λ f. marks_of f.0) flags_word) flags_listed j
listed_as kinds.Return j = listed_by returns (cells_by returns (λ r. return_cell r.0) return_word) return_listed j

abbrev pub listed : Job → List Line
listed j = listed_as j.kind j

-- a strip that is refused has one line
abbrev pub listing : Result Job StripFault → List Line
listing (Ok j) = listed j
listing (Err f) = Refused (faults.Strip f) ∷ []
