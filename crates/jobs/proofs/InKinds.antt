-- The listing of a job in each kind of cell.
use Rattle.std.proofs.Common.{◌≡◌, List, refl, ap, ◌∙◌}
use Rattle.cells.specs.Kinds.{grays, heights, marks, returns, gray_cell, height_cell, marks_of, return_cell}
use Rattle.cells.specs.Words.{gray_word, height_word, flags_word, return_word}
use Rattle.cells.specs.declared.gray.Gray as gray
use Rattle.cells.specs.declared.height.Height as height
use Rattle.cells.specs.declared.flags.Flags as flags
use Rattle.cells.specs.declared.echo.ReturnBits as echo
use Rattle.sheets.specs.Sheet.{shown}
use Rattle.strips.specs.Jobs.{Job}
use Rattle.strips.specs.declared.kind.CellKind.{CellKind}
use Rattle.strips.specs.declared.kind.CellKind.TheVariants.{Gray, Height, Flags, Return}
use Rattle.jobs.specs.Words.{gray_listed, height_listed, flags_listed, return_listed}
use Rattle.jobs.specs.Acts.{job_acts, Alike}
use Rattle.jobs.specs.Piles.{pile}
use Rattle.jobs.specs.Listings.{cells_by, listed, listed_as, ListsJob}
use Rattle.jobs.specs.declared.act.Act.{Act}
use Rattle.jobs.specs.declared.line.Line.{Line}
use Rattle.jobs.proofs.Likes.{performed_alike}

module _ (xs : List Act) (j : Job) (ls : List Line) (h : Alike xs (job_acts j)) where
  pub gray_job : Gray ≡ j.kind → ListsJob grays (λ (g : gray.Gray). gray_cell g.0) gray_word (λ g. gray_listed (gray_cell g.0)) xs j ls → ls ≡ listed j
  gray_job k l = l gray_listed (λ a. refl) ∙ performed_alike grays gray_listed j.kind xs (job_acts j) (shown (cells_by grays (λ g. gray_cell g.0) gray_word) (pile j)) h ∙ ap (λ (z : CellKind). listed_as z j) k

  pub height_job : Height ≡ j.kind → ListsJob heights (λ (g : height.Height). height_cell g.0) height_word (λ g. height_listed (height_cell g.0)) xs j ls → ls ≡ listed j
  height_job k l = l height_listed (λ a. refl) ∙ performed_alike heights height_listed j.kind xs (job_acts j) (shown (cells_by heights (λ g. height_cell g.0) height_word) (pile j)) h ∙ ap (λ (z : CellKind). listed_as z j) k

  pub flags_job : Flags ≡ j.kind → ListsJob marks (λ (g : flags.Flags). marks_of g.0) flags_word (λ g. flags_listed (marks_of g.0)) xs j ls → ls ≡ listed j
  flags_job k l = l flags_listed (λ a. refl) ∙ performed_alike marks flags_listed j.kind xs (job_acts j) (shown (cells_by marks (λ g. marks_of g.0) flags_word) (pile j)) h ∙ ap (λ (z : CellKind). listed_as z j) k

  pub return_job : Return ≡ j.kind → ListsJob returns (λ (g : echo.ReturnBits). return_cell g.0) return_word (λ g. return_listed (return_cell g.0)) xs j ls → ls ≡ listed j
  return_job k l = l return_listed (λ a. refl) ∙ performed_alike returns return_listed j.kind xs (job_acts j) (shown (cells_by returns (λ g. return_cell g.0) return_word) (pile j)) h ∙ ap (λ (z : CellKind). listed_as z j) k
