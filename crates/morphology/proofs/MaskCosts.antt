-- The examples of what filters cost, worked out, and the answers that follow.
use Rattle.std.proofs.Common.{List, [], ◌∷◌, refl, subst}
use Rattle.masks.specs.Rows.{columns, points}
use Rattle.masks.specs.Chords.{run, starts, chords}
use Rattle.masks.specs.Lengths.{ticked, halved, rising, lengths}
use Rattle.masks.specs.Cost.{spanned, table_cells, filter_picks}
use Rattle.masks.specs.declared.mask.Mask.{Mask}
use Rattle.masks.specs.declared.point.Point.{Point}
use Rattle.morphology.specs.Examples.{MaskExamples, CallExamples, pair_rows, letter_rows}

pub mask_examples : MaskExamples
unfolding columns points run starts chords ticked halved rising lengths spanned table_cells filter_picks
mask_examples = record {
  seven_lengths = refl;
  letter_chords = refl;
  letter_picks = refl;
  letter_table = refl;
}

abbrev some_point : List Point → Type 0
some_point [] = ⊥
some_point (p ∷ ps) = Unit {0}

-- a mask is not without points: the first of them is there
pair_mask : Mask
unfolding columns points
pair_mask = record { rows = pair_rows; some = λ e. subst some_point e tt }

letter_mask : Mask
unfolding columns points
letter_mask = record { rows = letter_rows; some = λ e. subst some_point e tt }

pub call_examples : CallExamples
unfolding pair_mask letter_mask columns points run starts chords ticked halved rising lengths spanned table_cells filter_picks
call_examples = record {
  mask = pair_mask;
  mask_rows = refl;
  mask_points = refl;
  letter = letter_mask;
  letter_drawn = refl;
  open_picks = refl;
  open_short = refl;
  open_bare = refl;
  open_empty = refl;
  open_wide = refl;
  open_widest = refl;
  mid_cost = refl;
  mid_unlike = refl;
  mid_short = refl;
  find_cost = refl;
  find_fore = refl;
  find_back = refl;
}
