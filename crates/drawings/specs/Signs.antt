-- The signs of a drawing: # and @ are points, . and o are none, and the origin is marked @ or o.
--     blank bs           the line has nothing but blanks
--     is_sign b          b is one of the four signs
--     is_point b         b stands for a point
--     is_origin b        b marks the origin
--     marks y ls         the characters of the lines ls that are not blank, with their places; the first line is line y
use Rattle.std.specs.Prelude.{ℕ, ◌+◌, Bool, true, cond, ◌&&◌, ◌||◌, List, [], ◌∷◌, ◌++◌, ◌==◌}
use Rattle.drawings.specs.declared.drawing.Mark.{Mark}

-- nothing but blanks, the character 32, or nothing at all
abbrev pub blank : List ℕ → Bool
blank [] = true
blank (b ∷ bs) = b == 32 && blank bs

-- # is 35, . is 46, @ is 64, o is 111
abbrev pub is_point : ℕ → Bool
is_point b = b == 35 || b == 64

abbrev pub is_origin : ℕ → Bool
is_origin b = b == 64 || b == 111

abbrev pub is_sign : ℕ → Bool
is_sign b = is_point b || (is_origin b || b == 46)

-- the characters of line y from column x on
abbrev pub numbered : ℕ → ℕ → List ℕ → List Mark
numbered y x [] = []
numbered y x (b ∷ bs) = record { place = record { line = y; column = x }; sign = b } ∷ numbered y (x + 1) bs

-- a blank line has no marks; columns count from 1
abbrev pub line_marks : ℕ → List ℕ → List Mark
line_marks y bs = cond (blank bs) [] (numbered y 1 bs)

abbrev pub marks : ℕ → List (List ℕ) → List Mark
marks y [] = []
marks y (l ∷ ls) = line_marks y l ++ marks (y + 1) ls
