-- That the sheets of holders are whole.
--     held_whole      a sheet held in a list, where each place has its index within the room
--     flipped_whole   a whole sheet, turned over
--     part_whole      a part of a whole sheet
use Rattle.std.proofs.Common.{◌≡◌, ℕ, zero, suc, ◌+◌, ◌<◌, true, ◌&&◌, List, [], ◌∷◌, length, is_some, refl, arith}
use Rattle.std.specs.List.{slice_get}
use Rattle.std.proofs.lemmas.Bool.Decides.{nat_tests}
use Rattle.sheets.specs.Sheet.{Sheet, Whole, inside, held}
use Rattle.sheets.specs.Layout.{Within}
use Rattle.sheets.specs.SouthUp.{from_south, flipped}
use Rattle.sheets.specs.declared.window.Rectangle.{Rectangle}
use Rattle.sheets.specs.Part.{overlap, unless_none, part}

some_at : {C : Type 0} (cells : List C) (i : ℕ) → i < length cells → is_some (slice_get cells i) ≡ true
some_at [] i h = absurd (omega arith)
some_at (c ∷ cs) zero h = refl
some_at (c ∷ cs) (suc i) h = some_at cs i (omega arith)

pub held_whole : {C : Type 0} (r w h : ℕ) (p : ℕ → ℕ → ℕ) (cells : List C) → Within w h p r → Whole (held r w h p cells)
held_whole r w h p cells within x y =
    let below = within x y in
    let on = some_at cells (p x y) in
    grind (arith, nat_tests, below, on)

pub flipped_whole : {C : Type 0} (s : Sheet C) → Whole s → Whole (flipped s)
flipped_whole s whole x y = let e = whole x (from_south s.height y) in grind (arith, nat_tests, e)

-- no place lies inside a rectangle without rows or without columns
both_inside : (a b x y : ℕ) → inside (unless_none b a) (unless_none a b) x y ≡ inside a b x y
both_inside zero zero x y = refl
both_inside zero (suc b) x y = grind (arith, nat_tests)
both_inside (suc a) zero x y = grind (arith, nat_tests)
both_inside (suc a) (suc b) x y = refl

-- a place lies in the overlap if it lies in the extent and on the sheet
pub in_overlap : (w h left top across down x y : ℕ) →
    inside (overlap w left across) (overlap h top down) x y ≡ (inside across down x y && inside w h (left + x) (top + y))
in_overlap w h left top across down x y = grind (arith, nat_tests)

-- the part of a whole sheet is whole
pub part_whole : {C : Type 0} (s : Sheet C) (r : Rectangle) → Whole s → Whole (part s r)
part_whole s r whole x y =
    let w = r.size.width in
    let h = r.size.height in
    let in_size = both_inside (overlap s.width r.left w) (overlap s.height r.top h) x y in
    let in_both = in_overlap s.width s.height r.left r.top w h x y in
    let on = whole (r.left + x) (r.top + y) in
    grind (arith, nat_tests, in_size, in_both, on)
