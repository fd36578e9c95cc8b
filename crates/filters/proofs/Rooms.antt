-- Where the parts of the table begin and end.
use Rattle.std.proofs.Common.{◌≡◌, ℕ, ◌+◌, ◌-◌, ◌*◌, ◌<◌, ◌≤◌, ap, ◌∙◌, mul-le-mul_right, add-mul, one-mul, mul-add, arith}

-- part i of n parts of s entries has room
pub part_room : (i n s : ℕ) → i < n → i * s + s ≤ n * s
part_room i n s h = let e : i + 1 ≤ n = omega arith in omega (arith, mul-le-mul_right s e, add-mul i 1 s)

-- part i begins where the part before it ends
pub part_next : (i s : ℕ) → 1 ≤ i → i * s ≡ (i - 1) * s + s
part_next i s h = let e : i ≡ i - 1 + 1 = omega arith in ap (λ (n : ℕ). n * s) e ∙ (omega (arith, add-mul (i - 1) 1 s))

-- and so has a slot of n parts
pub slot_room : (s rows n w : ℕ) → s < rows → s * n * w + n * w ≤ rows * n * w
slot_room s rows n w h = omega (arith, mul-le-mul_right w (part_room s rows n h), add-mul (s * n) n w)

-- a run that starts in a column of a part may end 30 entries past it at most
pub run_room : (s rows n i stride column : ℕ) → s < rows → i < n → column ≤ 30 → (s * n + i) * stride + column + stride ≤ rows * n * stride + 30
run_room s rows n i stride column a b c =
    let e : s + 1 ≤ rows = omega arith in
    let h : s * n + i + 1 ≤ rows * n = omega (arith, mul-le-mul_right n e, add-mul s 1 n) in
    omega (arith, mul-le-mul_right stride h, add-mul (s * n + i) 1 stride)

-- one part more
pub times_more : (m n a : ℕ) → n ≡ m + 1 → n * a ≡ m * a + a
times_more m n a e = ap (λ (i : ℕ). i * a) e ∙ add-mul m 1 a ∙ ap (λ (i : ℕ). m * a + i) (one-mul a)

-- the picks line by line and row by row, as one sum
pub rows_picks : (h rows line row : ℕ) → 1 ≤ rows → (rows - 1) * line + h * (line + row) ≡ (h + rows - 1) * line + h * row
rows_picks h rows line row o =
    let both : h * (line + row) ≡ h * line + h * row = mul-add h line row in
    let lines : (h + (rows - 1)) * line ≡ h * line + (rows - 1) * line = add-mul h (rows - 1) line in
    let more : h + (rows - 1) ≡ h + rows - 1 = omega arith in
    let sum : (rows - 1) * line + h * (line + row) ≡ (h + (rows - 1)) * line + h * row = omega (arith, both, lines) in
    sum ∙ ap (λ (n : ℕ). n * line + h * row) more
