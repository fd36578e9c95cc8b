-- What the program asks of its worksheets, and what is answered.
--     room j                 the cells of a table that the filters of a job need
--     pass_call n p          a pass as a call, where a table needs n cells
--     job_calls m n ps       the lay of the mask m, and the passes
--     gray_answers w gs cs   the answers to the calls cs on a new worksheet of the grays gs in rows of w cells
use Rattle.std.specs.Prelude.{ℕ, List, ◌∷◌, map}
use Rattle.std.specs.Option.{unwrap_or}
use Rattle.cells.specs.Kinds.{grays, gray_cell}
use Rattle.cells.specs.declared.gray.Gray.{Gray}
use Rattle.masks.specs.Cost.{table_cells, capped}
use Rattle.masks.specs.declared.mask.Mask.{Mask}
use Rattle.sheets.specs.Sheet.{shown}
use Rattle.sheets.specs.Rows.{whole_rows}
use Rattle.morphology.specs.Calls.{new, answers}
use Rattle.morphology.specs.Standing.{filter_of}
use Rattle.morphology.specs.declared.call.Call.{Call}
use Rattle.morphology.specs.declared.call.Call.TheVariants.{Lay, Apply}
use Rattle.morphology.specs.declared.call.Answer.{Answer}
use Rattle.sheetlaws.specs.declared.job.Job.{Job}
use Rattle.sheetlaws.specs.declared.job.Pass.{Pass}

-- as the call tells it, at most 2^64 - 1
abbrev pub room : Job → ℕ
room j = capped (table_cells j.mask.rows j.size.width)

-- without a number of cells, a table as long as is needed
abbrev pub pass_call : ℕ → Pass → Call
pass_call n p = Apply (filter_of p.sort) (unwrap_or p.cells n)

-- the mask is laid once, before the filters
abbrev pub job_calls : Mask → ℕ → List Pass → List Call
job_calls m n ps = Lay m ∷ map (pass_call n) ps

-- as the definitions of worksheets say
abbrev pub gray_answers : ℕ → List Gray → List Call → List Answer
gray_answers w gs cs = answers grays cs (new (shown (λ (g : Gray). gray_cell g.0) (whole_rows w gs)))
