-- Worked examples of the definitions, as one fact.
--     pair              the origin and its east neighbour, as points; pair_rows as the rows of a mask
--     letter_rows       the letter H, as the rows of a mask
--     GrayExamples      gray sheets under the pair and under one point
--     FlagExamples      a sheet of flags under the pair
--     MaskExamples      what filters under these masks cost
--     CallExamples      picks, and the order of refusals
--     Examples          all of these, the example at the edge, a find, and the rank of a return
use Rattle.std.specs.Prelude.{◌≡◌, ℕ, List, [], ◌∷◌, ◌++◌, length, replicate, pos, neg_ℤ, Some, None, Err, Option}
use Rattle.cells.specs.Kinds.{GrayCell, grays, marks, rank}
use Rattle.masks.specs.Chords.{chords}
use Rattle.masks.specs.Cost.{table_cells, filter_picks}
use Rattle.masks.specs.Lengths.{lengths}
use Rattle.masks.specs.Points.{origin}
use Rattle.masks.specs.declared.mask.Mask.{Mask}
use Rattle.masks.specs.declared.point.Point.{Point}
use Rattle.sheets.specs.Sheet.{Sheet, sheet_of}
use Rattle.morphology.specs.Filters.{eroded, dilated, opened, closed, points_of}
use Rattle.morphology.specs.Mid.{mid, mid_picks}
use Rattle.morphology.specs.Find.{HitList, find_picks}
use Rattle.morphology.specs.Refusals.{sized, judged_mid, judged_find}
use Rattle.morphology.specs.Calls.{answer}
use Rattle.morphology.specs.RowSheets.{row, Shows, halfway, flag_row, ShowsFlags, east}
use Rattle.morphology.specs.Edge.{EdgeExample}
use Rattle.morphology.specs.declared.refusal.Refusal.TheVariants.{WrongSize, NoMask, ShortTable, UnlikeSizes}
use Rattle.morphology.specs.declared.call.Filter.TheVariants.{Open}
use Rattle.morphology.specs.declared.call.Call.TheVariants.{Apply}
use Rattle.morphology.specs.declared.call.Answer.{Answer}
use Rattle.morphology.specs.declared.call.Answer.TheVariants.{Picks, Refused}

-- a place and its east neighbour
abbrev pub pair : List Point
pair = origin ∷ east ∷ []

-- the same as rows: the bits 15 and 16 of row 15
abbrev pub pair_rows : List ℕ
pair_rows = replicate 15 0 ++ 0x18000 ∷ replicate 15 0

-- the letter H, three points wide and high: two uprights, and a bar through the origin
abbrev pub letter_rows : List ℕ
letter_rows = replicate 14 0 ++ 0x14000 ∷ 0x1c000 ∷ 0x14000 ∷ replicate 14 0

-- gray 7 9 4 under the pair
abbrev pub three : Sheet GrayCell
three = row (7 ∷ 9 ∷ 4 ∷ [])

-- one cell under the east point alone
abbrev pub one : Sheet GrayCell
one = row (7 ∷ [])

-- what the filters make of these two
pub record GrayExamples : Type 0 where
  pub three_eroded : Shows (eroded grays pair three) (7 ∷ 4 ∷ 4 ∷ [])
  pub three_dilated : Shows (dilated grays pair three) (7 ∷ 9 ∷ 9 ∷ [])
  pub three_opened : Shows (opened grays pair three) (7 ∷ 7 ∷ 4 ∷ [])
  pub three_closed : Shows (closed grays pair three) (7 ∷ 9 ∷ 9 ∷ [])
  pub three_mid : Shows (mid grays halfway pair three) (7 ∷ 8 ∷ 6 ∷ [])
  pub three_opened_closed : Shows (closed grays pair (opened grays pair three)) (7 ∷ 7 ∷ 7 ∷ [])
  pub one_opened : Shows (opened grays (east ∷ []) one) (0 ∷ [])
  pub one_closed : Shows (closed grays (east ∷ []) one) (255 ∷ [])
  pub one_mid : Shows (mid grays halfway (east ∷ []) one) (127 ∷ [])

-- flags 1 2 under the pair
pub record FlagExamples : Type 0 where
  pub flags_dilated : ShowsFlags (dilated marks pair (flag_row (1 ∷ 2 ∷ []))) (1 ∷ 3 ∷ [])
  pub flags_eroded : ShowsFlags (eroded marks pair (flag_row (1 ∷ 2 ∷ []))) (0 ∷ 2 ∷ [])

-- a chord of 7, and the letter on a sheet 4 by 4
pub record MaskExamples : Type 0 where
  pub seven_lengths : lengths (record { v = pos 0; start = pos 0; length = 7 } ∷ []) ≡ 1 ∷ 2 ∷ 4 ∷ 7 ∷ []
  pub letter_chords : length (chords letter_rows 31) ≡ 5
  pub letter_picks : filter_picks letter_rows 4 4 ≡ 454
  pub letter_table : table_cells letter_rows 4 ≡ 306

-- what opening a sheet answers, by the mask that lies and the length of the table
abbrev pub open_answer : Sheet GrayCell → Option Mask → ℕ → Answer
open_answer f mask n = answer (Apply Open n) (record { sheet = f; mask = mask })

-- a sheet one row high, of which only the width matters
abbrev pub blank : ℕ → Sheet GrayCell
blank w = sheet_of w 1 (λ x y. None)

-- there are masks with these rows; of several grounds for a refusal the first is told
pub record CallExamples : Type 0 where
  pub mask : Mask
  pub mask_rows : mask.rows ≡ pair_rows
  pub mask_points : points_of mask ≡ pair
  pub letter : Mask
  pub letter_drawn : letter.rows ≡ letter_rows
  pub open_picks : open_answer three (Some mask) 66 ≡ Picks 64
  pub open_short : open_answer three (Some mask) 65 ≡ Refused (ShortTable 66 65)
  pub open_bare : open_answer three None 65 ≡ Refused NoMask
  pub open_empty : open_answer (blank 0) None 65 ≡ Refused (WrongSize (sized 0 1))
  pub open_wide : open_answer (blank 2049) None 65 ≡ Refused (WrongSize (sized 2049 1))
  pub open_widest : open_answer (blank 2048) None 65 ≡ Refused NoMask
  pub mid_cost : mid_picks mask 3 1 ≡ 128
  pub mid_unlike : judged_mid 3 1 4 1 (Some mask) 66 ≡ Err (UnlikeSizes (sized 3 1) (sized 4 1))
  pub mid_short : judged_mid 3 1 4 1 (Some mask) 65 ≡ Err (ShortTable 66 65)
  pub find_cost : find_picks mask letter 4 4 ≡ 586
  pub find_fore : judged_find 3 1 mask 65 letter 0 ≡ Err (ShortTable 66 65)
  pub find_back : judged_find 3 1 mask 66 letter 296 ≡ Err (ShortTable 297 296)

-- with them gray 7 9 at its edge; gray 9 2 9, where the origin for fore and the east point for back have one hit
pub record Examples : Type 0 where
  pub grays_shown : GrayExamples
  pub flags_shown : FlagExamples
  pub masks_cost : MaskExamples
  pub calls_answer : CallExamples
  pub edge_lost : EdgeExample
  pub found : HitList grays (origin ∷ []) (east ∷ []) (row (9 ∷ 2 ∷ 9 ∷ [])) (record { x = 0; y = 0 } ∷ [])
  pub return_rank : rank 0xbf800000 ≡ neg_ℤ (pos 1065353216)
