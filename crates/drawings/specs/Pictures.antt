-- A mask drawn again.
--     sign_at rows v u      the sign for the point (u, v)
use Rattle.std.specs.Prelude.{ℕ, cond, ◌&&◌, List, ℤ, pos}
use Rattle.std.specs.Ordering.{int_eq}
use Rattle.masks.specs.Rows.{holds}

-- @ or o at the origin, # or . elsewhere: the first of the two where the mask has the point
abbrev pub sign_at : List ℕ → ℤ → ℤ → ℕ
sign_at rows v u =
    let held = holds rows (record { u = u; v = v }) in
    cond (int_eq u (pos 0) && int_eq v (pos 0)) (cond held 64 111) (cond held 35 46)
