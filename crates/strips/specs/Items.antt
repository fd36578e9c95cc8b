-- What a word with a kind says.
--     filter_number q    the number of a filter in a call
--     filter_of n        the filter with that number, if there is one
--     pair b             the two numbers of twelve bits that b is, if its other bits are 0
--     item_of w          what the word w says; nothing where its kind is not 1 to 7, its call not 1 to 4 or an unused bit set
--     item_word x        the word that says x
--     Fits x             the values of x lie in their fields
use Rattle.std.specs.Prelude.{◌≡◌, ℕ, ◌+◌, ◌*◌, ◌/◌, ◌%◌, ◌^◌, ◌<◌, cond, Some, None, Option, Result, ◌==◌, nat_lt}
use Rattle.std.specs.Option.{option_map}
use Rattle.morphology.specs.declared.call.Filter.{Filter}
use Rattle.morphology.specs.declared.call.Filter.TheVariants.{Erode, Dilate, Open, Close}
use Rattle.strips.specs.Words.{kind, body}
use Rattle.strips.specs.Kinds.{given, given_number}
use Rattle.strips.specs.declared.kind.CellKind.{CellKind}
use Rattle.strips.specs.declared.kind.NoSuchKind.{NoSuchKind}
use Rattle.strips.specs.declared.item.Item.{Item}
use Rattle.strips.specs.declared.item.Item.TheVariants.{Head, Cells, Corner, Extent, Point, Call, End}

abbrev pub filter_number : Filter → ℕ
filter_number Erode = 1
filter_number Dilate = 2
filter_number Open = 3
filter_number Close = 4

abbrev pub filter_of : ℕ → Option Filter
filter_of n = cond (n == 1) (Some Erode) (cond (n == 2) (Some Dilate) (cond (n == 3) (Some Open) (cond (n == 4) (Some Close) None)))

-- bits 27 to 24 the kind of cell, 23 to 12 the width, 11 to 0 the height
abbrev pub head_item : ℕ → Option Item
head_item b = Some (Head (given (b / 2 ^ 24)) (b / 2 ^ 12 % 2 ^ 12) (b % 2 ^ 12))

-- bits 23 to 12, and 11 to 0
abbrev pub pair : ℕ → Option (ℕ × ℕ)
pair b = cond (nat_lt b (2 ^ 24)) (Some (b / 2 ^ 12, b % 2 ^ 12)) None

-- the column and the row
abbrev pub corner_item : ℕ → Option Item
corner_item b = option_map (λ p. Corner p.0 p.1) (pair b)

-- the width and the height
abbrev pub extent_item : ℕ → Option Item
extent_item b = option_map (λ p. Extent p.0 p.1) (pair b)

-- bits 9 to 5 are u + 15, 4 to 0 are v + 15
abbrev pub point_item : ℕ → Option Item
point_item b = cond (nat_lt b (2 ^ 10)) (Some (Point (record { u = b / 2 ^ 5; v = b % 2 ^ 5 }))) None

abbrev pub end_item : ℕ → Option Item
end_item b = cond (b == 0) (Some End) None

-- what the body b says in a word of the kind k
abbrev pub item_by : ℕ → ℕ → Option Item
item_by k b =
    cond (k == 1) (head_item b)
    (cond (k == 2) (Some (Cells b))
    (cond (k == 3) (corner_item b)
    (cond (k == 4) (extent_item b)
    (cond (k == 5) (point_item b)
    (cond (k == 6) (option_map Call (filter_of b))
    (cond (k == 7) (end_item b) None))))))

unfoldable pub item_of : ℕ → Option Item
item_of w = item_by (kind w) (body w)

abbrev pub item_word : Item → ℕ
item_word (Head k w h) = 1 * 2 ^ 28 + given_number k * 2 ^ 24 + w * 2 ^ 12 + h
item_word (Cells n) = 2 * 2 ^ 28 + n
item_word (Corner c r) = 3 * 2 ^ 28 + c * 2 ^ 12 + r
item_word (Extent w h) = 4 * 2 ^ 28 + w * 2 ^ 12 + h
item_word (Point p) = 5 * 2 ^ 28 + p.u * 2 ^ 5 + p.v
item_word (Call q) = 6 * 2 ^ 28 + filter_number q
item_word End = 7 * 2 ^ 28

-- the kind of cell is given by a number of four bits
abbrev pub IsGiven : Result CellKind NoSuchKind → Type 0
IsGiven k = (given_number k < 2 ^ 4) × (given (given_number k) ≡ k)

abbrev pub Fits : Item → Type 0
Fits (Head k w h) = IsGiven k × (w < 2 ^ 12) × (h < 2 ^ 12)
Fits (Cells n) = n < 2 ^ 28
Fits (Corner c r) = (c < 2 ^ 12) × (r < 2 ^ 12)
Fits (Extent w h) = (w < 2 ^ 12) × (h < 2 ^ 12)
Fits (Point p) = (p.u < 2 ^ 5) × (p.v < 2 ^ 5)
Fits (Call q) = Unit {0}
Fits End = Unit {0}
