-- That tiles are a layout.
--     tiles_within  every place inside has its index within the room
--     tiles_apart   two places inside never share an index
use Rattle.std.proofs.Common.{◌≡◌, ℕ, ◌+◌, ◌*◌, ◌/◌, ◌%◌, ◌<◌, sym, ap, ◌∙◌, arith}
use Rattle.std.proofs.lemmas.Nat.{mul-add-lt, div-mul-add, mod-mul-add}
use Rattle.sheets.specs.Tiles.{eights, room, tile_place}
use Rattle.sheets.specs.Layout.{Apart, Within}

-- the square of a place inside is one of those that cover the line
square_below : (x w : ℕ) → x < w → x / 8 < eights w
square_below x w h = omega arith

-- the square, and the place in it, are the quotient and the rest of the index
square_of : (across x y : ℕ) → tile_place across x y / 64 ≡ y / 8 * across + x / 8
square_of across x y = omega arith

column_in : (across x y : ℕ) → tile_place across x y % 8 ≡ x % 8
column_in across x y = omega arith

row_in : (across x y : ℕ) → tile_place across x y / 8 % 8 ≡ y % 8
row_in across x y = omega arith

pub tiles_apart : (w h : ℕ) → Apart w h (tile_place (eights w))
tiles_apart w h i j x y a b c d e =
    let n = eights w in
    let k : i / 8 < n = square_below i w a in
    let m : x / 8 < n = square_below x w c in
    let s : j / 8 * n + i / 8 ≡ y / 8 * n + x / 8 = sym (square_of n i j) ∙ ap (λ (p : ℕ). p / 64) e ∙ square_of n x y in
    let sx : i / 8 ≡ x / 8 = sym (mod-mul-add (j / 8) n (i / 8) k) ∙ ap (λ (p : ℕ). p % n) s ∙ mod-mul-add (y / 8) n (x / 8) m in
    let sy : j / 8 ≡ y / 8 = sym (div-mul-add (j / 8) n (i / 8) k) ∙ ap (λ (p : ℕ). p / n) s ∙ div-mul-add (y / 8) n (x / 8) m in
    let px : i % 8 ≡ x % 8 = sym (column_in n i j) ∙ ap (λ (p : ℕ). p % 8) e ∙ column_in n x y in
    let py : j % 8 ≡ y % 8 = sym (row_in n i j) ∙ ap (λ (p : ℕ). p / 8 % 8) e ∙ row_in n x y in
    (omega (arith, sx, px), omega (arith, sy, py))

pub tiles_within : (w h : ℕ) → Within w h (tile_place (eights w)) (room w h)
tiles_within w h x y a b =
    omega (arith, mul-add-lt (y / 8) (eights w) (x / 8) (eights h) (square_below y h b) (square_below x w a))
