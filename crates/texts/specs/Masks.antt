-- The mask of a drawing that stands in a job.
--     Draws ls m      m is the mask that is drawn in the lines ls
--     Undrawn ls e    e is why no mask is drawn in them, or want of memory
use Rattle.std.specs.Prelude.{◌≡◌, ◌⊎◌, List, Ok, Err}
use Rattle.masks.specs.declared.mask.Mask.{Mask}
use Rattle.drawings.specs.Signs.{marks}
use Rattle.drawings.specs.Readings.{Reads}
use Rattle.drawings.specs.Drawn.{Masks}
use Rattle.drawings.specs.declared.drawing.Drawing.{Drawing}
use Rattle.drawings.specs.declared.drawing.DrawingFault.{DrawingFault}
use Rattle.drawings.specs.declared.drawn.DrawnFault.{DrawnFault}
use Rattle.drawings.specs.declared.drawn.DrawnFault.TheVariants.{Unread}
use Rattle.texts.specs.Lines.{drawn_from}
use Rattle.texts.specs.declared.fault.JobFault.{JobFault}
use Rattle.texts.specs.declared.fault.JobFault.TheVariants.{Drawn, Memory}
use Rattle.texts.specs.declared.line.Line.{Line}

abbrev pub Draws : List Line → Mask → Type 0
Draws ls m = (d : Drawing) × Reads (marks 1 (drawn_from ls)) (Ok d) × Masks d (Ok m)

-- the drawing cannot be read, or no mask can be made of its points
abbrev pub Undrawn : List Line → JobFault → Type 0
Undrawn ls e = (e ≡ Memory)
    ⊎ (((g : DrawingFault) × Reads (marks 1 (drawn_from ls)) (Err g) × (e ≡ Drawn (Unread g)))
    ⊎ ((d : Drawing) × (g : DrawnFault) × Reads (marks 1 (drawn_from ls)) (Ok d) × Masks d (Err g) × (e ≡ Drawn g)))
