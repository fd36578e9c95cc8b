-- A job: a sheet, perhaps a window of it, and what is done; and its strip.
--     Job                the job that a strip tells
--     job_words j        the words of its strip, from head to end
--     layout j           the bytes of its strip
--     step_of w          the step that a word is
--     first_step j       the word of the first step
--     point_of p         the point of a mask that a step's fields mean
--     Sound j            the words of j say what j is
--     Proper j           j has a strip
use Rattle.std.specs.Prelude.{◌≡◌, ℕ, ◌+◌, ◌*◌, ◌^◌, ◌<◌, ◌≤◌, true, List, [], ◌∷◌, ◌++◌, length, map, Some, None, Ok, Option, IfSome, cond, nat_lt}
use Rattle.std.specs.List.{flat_map, AllByRecursion}
use Rattle.masks.specs.Points.{point_at}
use Rattle.masks.specs.declared.point.Point.{Point}
use Rattle.sheets.specs.declared.window.Rectangle.{Rectangle}
use Rattle.strips.specs.Words.{word_bytes}
use Rattle.strips.specs.Kinds.{is_cell}
use Rattle.strips.specs.Items.{item_of, item_word, Fits}
use Rattle.strips.specs.declared.kind.CellKind.{CellKind}
use Rattle.strips.specs.declared.item.Item.{Item}
use Rattle.strips.specs.declared.item.Item.TheVariants.{Head, Cells, Corner, Extent, End}
use Rattle.strips.specs.declared.item.Item.TheVariants as items
use Rattle.strips.specs.declared.parts.PointFields.{PointFields}
use Rattle.strips.specs.declared.parts.Step.{Step}
use Rattle.strips.specs.declared.parts.Step.TheVariants as steps

-- the cells are raw words, row by row; a step is a point, its u and v counted from -15, or a filter
pub record Job : Type 0 where
  pub kind : CellKind
  pub width : ℕ
  pub height : ℕ
  pub raws : List ℕ
  pub window : Option Rectangle
  pub steps : List Step

-- the item of a step
abbrev pub step_item : Step → Item
step_item (steps.Point p) = items.Point p
step_item (steps.Call q) = items.Call q

-- the step that a word is; nothing else is asked of it, and what is no step counts as the point 0 0
abbrev pub step_by : Option Item → Step
step_by (Some (items.Point p)) = steps.Point p
step_by (Some (items.Call q)) = steps.Call q
step_by _ = steps.Point (record { u = 0; v = 0 })

abbrev pub step_of : ℕ → Step
step_of w = step_by (item_of w)

abbrev pub corner : Rectangle → Item
corner f = Corner f.left f.top

abbrev pub extent : Rectangle → Item
extent f = Extent f.size.width f.size.height

-- both words of a window, or none
abbrev pub window_words : Option Rectangle → List ℕ
window_words None = []
window_words (Some f) = item_word (corner f) ∷ item_word (extent f) ∷ []

abbrev pub step_words : List Step → List ℕ
step_words ss = map (λ s. item_word (step_item s)) ss

abbrev pub head : Job → Item
head j = Head (Ok j.kind) j.width j.height

-- head, cells and the raw words, the window, the steps, the end
unfoldable pub job_words : Job → List ℕ
job_words j =
    item_word (head j) ∷ item_word (Cells (j.width * j.height)) ∷ j.raws
    ++ (window_words j.window ++ (step_words j.steps ++ item_word End ∷ []))

abbrev pub layout : Job → List ℕ
layout j = flat_map word_bytes (job_words j)

-- the number of the word that is the i-th of n steps, the first of which is word s
abbrev pub step_place : ℕ → ℕ → ℕ → Option ℕ
step_place s n i = cond (nat_lt i n) (Some (s + i)) None

-- the number of the word after head, cells, raw words and window
abbrev pub first_step : Job → ℕ
first_step j = 2 + length j.raws + length (window_words j.window)

-- the offset that a field of a point means
abbrev pub point_of : PointFields → Point
point_of p = point_at p.u p.v

-- a raw word that a strip of this kind may have
abbrev pub IsRaw : CellKind → ℕ → Type 0
IsRaw k w = (w < 2 ^ 32) × (is_cell k w ≡ true)

-- the values lie in their fields, and there are as many raw words as the head says, each a cell
pub record Sound (j : Job) : Type 0 where
  pub head : Fits (head j)
  pub count : length j.raws ≡ j.width * j.height
  pub raws : AllByRecursion (IsRaw j.kind) j.raws
  pub window : IfSome j.window (λ f. Fits (corner f) × Fits (extent f))
  pub steps : AllByRecursion (λ s. Fits (step_item s)) j.steps

-- a sound job, the strip of which is not too long
pub record Proper (j : Job) : Type 0 where
  pub sound : Sound j
  pub short : length (layout j) ≤ 65536
