-- The topmost sheet of a job, on which its filters work.
--     north_up k s       the sheet s with its northmost row first: south-up where its kind is height
--     framed f s         the part of s that a window shows, or s where there is no window
--     topmost k w f cs   the sheet of the rows of cs, w wide, north up and framed
--     pile j             the topmost of a job, of raw words
use Rattle.std.specs.Prelude.{ℕ, List, Some, None, Option}
use Rattle.sheets.specs.Sheet.{Sheet}
use Rattle.sheets.specs.Rows.{whole_rows}
use Rattle.sheets.specs.SouthUp.{flipped}
use Rattle.sheets.specs.Part.{part}
use Rattle.strips.specs.Jobs.{Job}
use Rattle.strips.specs.declared.kind.CellKind.{CellKind}
use Rattle.strips.specs.declared.kind.CellKind.TheVariants.{Gray, Height, Flags, Return}
use Rattle.sheets.specs.declared.window.Rectangle.{Rectangle}

-- the rows of heights come southmost first
abbrev pub north_up : {C : Type 0} → CellKind → Sheet C → Sheet C
north_up Gray s = s
north_up Height s = flipped s
north_up Flags s = s
north_up Return s = s

abbrev pub framed : {C : Type 0} → Option Rectangle → Sheet C → Sheet C
framed None s = s
framed (Some r) s = part s r

-- the window lies on what is shown below it
abbrev pub topmost : {C : Type 0} → CellKind → ℕ → Option Rectangle → List C → Sheet C
topmost k w f cs = framed f (north_up k (whole_rows w cs))

abbrev pub pile : Job → Sheet ℕ
pile j = topmost j.kind j.width j.window j.raws
