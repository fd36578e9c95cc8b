-- The threshold at a gray level: no marks below it, all marks from it on.
--     thresholded t c      what the threshold t makes of the gray cell c
--     flags_from t g       the same, of stored values
use Rattle.std.specs.Prelude.{ℕ, cond, pos, int_lt, nat_lt}
use Rattle.cells.specs.Kinds.{GrayCell, Marks, marks_of}
use Rattle.cells.specs.declared.gray.Gray.{Gray}
use Rattle.cells.specs.declared.flags.Flags.{Flags}

abbrev pub thresholded : ℕ → GrayCell → Marks
thresholded t c = cond (int_lt c.number (pos t)) (marks_of 0) (marks_of 255)

abbrev pub flags_from : ℕ → Gray → Flags
flags_from t g = cond (nat_lt g.0 t) (record { 0 = 0 }) (record { 0 = 255 })
