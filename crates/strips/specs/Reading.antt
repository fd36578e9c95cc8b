-- Reading a strip word by word, with the first refusal that is met.
--     Left               what is left of a strip: the number of the next word, and the words from it on
--     r >>= f            the step f, where r was not refused
--     word_due l         the next word
--     item_due l         what it says
--     shape_due l        the head: kind, width and height
--     count_due n l      the cells word, which says n
--     cell_due k l       a raw word, a cell of the kind k
--     raws_due k n l     n raw words, each such a cell
--     frame_due l        the corner and the extent of a window
--     window_due l       the window, if a corner stands there
--     step_due l         a step, or the end: whether it is a step
--     steps_from i ws    how many steps stand in the words ws, from word i on, before the end word
--     ended n l          no word is left, and n bytes besides, which is none
--     job_from n ws      the job that the words ws tell, with n bytes behind them, or the refusal
--     reading bs         the job that the bytes bs are the strip of, or the refusal
use Rattle.std.specs.Prelude.{ℕ, zero, suc, ◌+◌, ◌*◌, Bool, true, false, cond, ◌&&◌, List, [], ◌∷◌, length, map, take, Some, None, Option, Ok, Err, Result, ◌==◌, nat_lt}
use Rattle.strips.specs.Words.{kind, words, over}
use Rattle.strips.specs.Kinds.{is_cell}
use Rattle.strips.specs.Items.{item_of}
use Rattle.strips.specs.Jobs.{Job, step_of}
use Rattle.strips.specs.declared.kind.CellKind.{CellKind}
use Rattle.strips.specs.declared.kind.NoSuchKind.{NoSuchKind}
use Rattle.strips.specs.declared.item.Item.{Item}
use Rattle.strips.specs.declared.item.Item.TheVariants.{Head, Cells, Corner, Extent, Point, Call, End}
use Rattle.strips.specs.declared.fault.StripFault.{StripFault}
use Rattle.strips.specs.declared.fault.StripFault.TheVariants.{TooLong, At}
use Rattle.strips.specs.declared.fault.Ground.TheVariants.{CutShort, NoWord, OutOfOrder, NoKind, WrongCount, NoCell}
use Rattle.sheets.specs.declared.window.Rectangle.{Rectangle}
use Rattle.strips.specs.declared.parts.Shape.{Shape}

pub record Left : Type 0 where
  pub place : ℕ
  pub words : List ℕ

abbrev pub from : ℕ → List ℕ → Left
from i ws = record { place = i; words = ws }

infixl 10 ◌>>=◌
abbrev pub ◌>>=◌ : {A B : Type 0} → Result A StripFault → (A → Result B StripFault) → Result B StripFault
(Ok x) >>= f = f x
(Err e) >>= f = Err e

-- 2: fewer than four bytes stand where a word is due
abbrev pub word_from : ℕ → List ℕ → Result (ℕ × Left) StripFault
word_from i [] = Err (At CutShort i)
word_from i (w ∷ ws) = Ok (w, from (i + 1) ws)

unfoldable pub word_due : Left → Result (ℕ × Left) StripFault
word_due l = word_from l.place l.words

-- 3: the word says nothing
abbrev pub said : ℕ → Option Item → Result Item StripFault
said i (Some x) = Ok x
said i None = Err (At NoWord i)

unfoldable pub item_due : Left → Result (Item × Left) StripFault
item_due l = do
  w ← word_due l
  x ← said l.place (item_of w.0)
  Ok (x, w.1)

-- 4: the word is no head; 5: it has the number of no kind of cell
abbrev pub shape_by : ℕ → Result CellKind NoSuchKind → ℕ → ℕ → Result Shape StripFault
shape_by i (Ok k) w h = Ok (record { kind = k; width = w; height = h })
shape_by i (Err n) w h = Err (At NoKind i)

abbrev pub shape_of : ℕ → Item → Result Shape StripFault
shape_of i (Head k w h) = shape_by i k w h
shape_of i _ = Err (At OutOfOrder i)

unfoldable pub shape_due : Left → Result (Shape × Left) StripFault
shape_due l = do
  x ← item_due l
  s ← shape_of l.place x.0
  Ok (s, x.1)

-- 4: the word is no cells word; 5: it has another count
abbrev pub count_of : ℕ → ℕ → Item → Result ℕ StripFault
count_of n i (Cells m) = cond (m == n) (Ok n) (Err (At WrongCount i))
count_of n i _ = Err (At OutOfOrder i)

unfoldable pub count_due : ℕ → Left → Result (ℕ × Left) StripFault
count_due n l = do
  x ← item_due l
  m ← count_of n l.place x.0
  Ok (m, x.1)

-- 6: the raw word is no cell
abbrev pub cell_of : CellKind → ℕ → ℕ → Result ℕ StripFault
cell_of k i w = cond (is_cell k w) (Ok w) (Err (At NoCell i))

unfoldable pub cell_due : CellKind → Left → Result (ℕ × Left) StripFault
cell_due k l = do
  w ← word_due l
  c ← cell_of k l.place w.0
  Ok (c, w.1)

unfoldable pub raws_due : CellKind → ℕ → Left → Result Left StripFault
raws_due k zero l = Ok l
raws_due k (suc n) l = do
  c ← cell_due k l
  raws_due k n c.1

-- 4: the word is no corner, or no extent
abbrev pub corner_of : ℕ → Item → Result (ℕ × ℕ) StripFault
corner_of i (Corner c r) = Ok (c, r)
corner_of i _ = Err (At OutOfOrder i)

abbrev pub extent_of : ℕ → Item → Result (ℕ × ℕ) StripFault
extent_of i (Extent w h) = Ok (w, h)
extent_of i _ = Err (At OutOfOrder i)

unfoldable pub frame_due : Left → Result (Rectangle × Left) StripFault
frame_due l = do
  x ← item_due l
  c ← corner_of l.place x.0
  y ← item_due x.1
  e ← extent_of x.1.place y.0
  Ok (record { left = c.0; top = c.1; size = record { width = e.0; height = e.1 } }, y.1)

-- a corner word stands there
abbrev pub begins : List ℕ → Bool
begins [] = false
begins (w ∷ ws) = kind w == 3

unfoldable pub window_due : Left → Result (Option Rectangle × Left) StripFault
window_due l = cond (begins l.words) (frame_due l >>= λ f. Ok (Some f.0, f.1)) (Ok (None, l))

-- a point and a call are steps, the end is none; 4: the word is another
abbrev pub is_step : ℕ → Item → Result Bool StripFault
is_step i (Point p) = Ok true
is_step i (Call q) = Ok true
is_step i End = Ok false
is_step i _ = Err (At OutOfOrder i)

unfoldable pub step_due : Left → Result (Bool × Left) StripFault
step_due l = do
  x ← item_due l
  b ← is_step l.place x.0
  Ok (b, x.1)

abbrev pub one_more : ℕ × Left → Result (ℕ × Left) StripFault
one_more n = Ok (n.0 + 1, n.1)

unfoldable pub steps_from : ℕ → List ℕ → Result (ℕ × Left) StripFault
steps_from i [] = Err (At CutShort i)
steps_from i (w ∷ ws) = do
  b ← step_due (from i (w ∷ ws))
  cond b.0 (steps_from (i + 1) ws >>= one_more) (Ok (0, b.1))

abbrev pub steps_due : Left → Result (ℕ × Left) StripFault
steps_due l = steps_from l.place l.words

-- 4: a word, or bytes that are no whole word, follow the end
abbrev pub none_left : List ℕ → Bool
none_left [] = true
none_left (w ∷ ws) = false

abbrev pub ended : ℕ → Left → Result Left StripFault
ended n l = cond (none_left l.words && n == 0) (Ok l) (Err (At OutOfOrder l.place))

-- part by part; the raw words and the steps are taken from where they were passed
unfoldable pub job_from : ℕ → List ℕ → Result Job StripFault
job_from n ws = do
  s ← shape_due (from 0 ws)
  c ← count_due (s.0.width * s.0.height) s.1
  r ← raws_due s.0.kind c.0 c.1
  f ← window_due r
  k ← steps_due f.1
  e ← ended n k.1
  Ok (record { kind = s.0.kind; width = s.0.width; height = s.0.height; raws = take c.0 c.1.words; window = f.0; steps = map step_of (take k.0 f.1.words) })

-- 1: the strip is too long, which is told first; then word by word
unfoldable pub reading : List ℕ → Result Job StripFault
reading bs = cond (nat_lt 65536 (length bs)) (Err TooLong) (job_from (over bs) (words bs))
