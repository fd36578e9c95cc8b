use Rattle.std.proofs.Common.{◌≡◌, map, take, string_bytes}
use Rattle.drawings.specs.Pictures.{sign_at}
use Rattle.drawings.proofs.picture.picture_row.Given as goal

-- the signs of the columns passed
abbrev pub invariant-loop-u : goal.invariant-loop-u
invariant-loop-u l = string_bytes l.row ≡ map (sign_at l.mask.rows l.v) (take l.u-index l.columns)
