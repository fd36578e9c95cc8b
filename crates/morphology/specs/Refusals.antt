-- Why a filter is refused, and in which order the grounds are tried.
--     number r                       the number of a refusal
--     values r                       the values that are told with it
--     sized w h                      the size of a sheet w by h
--     judged w h mask n              a filter of a sheet w by h with a table of n cells: the mask, or the refusal
--     judged_mid w h w' h' mask n    the same of a mid, whose second sheet is w' by h'
--     judged_find w h fore n back m  the same of a find, with a table of n cells for the fore mask and one of m for the back
use Rattle.std.specs.Prelude.{ℕ, Bool, cond, ◌&&◌, List, [], ◌∷◌, Some, None, Ok, Err, Option, Result, ◌==◌, nat_le, nat_lt}
use Rattle.masks.specs.Cost.{table_cells}
use Rattle.masks.specs.declared.mask.Mask.{Mask}
use Rattle.sheets.specs.declared.holder.Size.{Size}
use Rattle.morphology.specs.declared.refusal.Refusal.{Refusal}
use Rattle.morphology.specs.declared.refusal.Refusal.TheVariants.{WrongSize, NoMask, ShortTable, UnlikeSizes}

-- the number under which a refusal is told
abbrev pub number : Refusal → ℕ
number (WrongSize s) = 9
number NoMask = 10
number (ShortTable needs has) = 11
number (UnlikeSizes s t) = 12

-- the values that are told with it, in their order; zeros behind the last
abbrev pub values : Refusal → List ℕ
values (WrongSize s) = s.width ∷ s.height ∷ 0 ∷ 0 ∷ []
values NoMask = 0 ∷ 0 ∷ 0 ∷ 0 ∷ []
values (ShortTable needs has) = needs ∷ has ∷ 0 ∷ 0 ∷ []
values (UnlikeSizes s t) = s.width ∷ s.height ∷ t.width ∷ t.height ∷ []

-- a width or a height that can be filtered
abbrev pub fits : ℕ → Bool
fits n = nat_le 1 n && nat_le n 2048

-- what is told of a sheet w by h
abbrev pub sized : ℕ → ℕ → Size
sized w h = record { width = w; height = h }

-- the table of n cells is long enough for the mask
abbrev pub by_table : ℕ → Mask → ℕ → Result Mask Refusal
by_table w m n = cond (nat_lt n (table_cells m.rows w)) (Err (ShortTable (table_cells m.rows w) n)) (Ok m)

-- a mask lies, and then the table
abbrev pub by_mask : ℕ → Option Mask → ℕ → Result Mask Refusal
by_mask w None n = Err NoMask
by_mask w (Some m) n = by_table w m n

-- a further test, where none before it refused
abbrev pub and_then : Result Mask Refusal → (Mask → Result Mask Refusal) → Result Mask Refusal
and_then (Ok m) more = more m
and_then (Err r) more = Err r

-- a filter: first the size, then the mask, then the table
abbrev pub judged : ℕ → ℕ → Option Mask → ℕ → Result Mask Refusal
judged w h mask n = cond (fits w && fits h) (by_mask w mask n) (Err (WrongSize (sized w h)))

-- a mid: as a filter, and then the size of the second sheet
abbrev pub judged_mid : ℕ → ℕ → ℕ → ℕ → Option Mask → ℕ → Result Mask Refusal
judged_mid w h w' h' mask n =
    and_then (judged w h mask n) (λ m. cond (w == w' && h == h') (Ok m) (Err (UnlikeSizes (sized w h) (sized w' h'))))

-- a find: as a filter under the fore mask with its table of n cells, and then the table of m cells for the back mask
abbrev pub judged_find : ℕ → ℕ → Mask → ℕ → Mask → ℕ → Result Mask Refusal
judged_find w h fore n back m = and_then (judged w h (Some fore) n) (λ _. by_table w back m)
