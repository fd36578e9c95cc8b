-- The lines of a job, each with its number.
--     told l               the number and the text of the line l
--     numbered_from n ts   the texts ts as lines from number n on
--     shown v              the lines that a view shows, each by its number and its text
--     lines_before ls      how many lines of the job stand before the lines ls
--     drawn_from ls        the lines ls with as many blank ones before them
use Rattle.std.specs.Prelude.{ℕ, ◌+◌, ◌-◌, List, [], ◌∷◌, ◌++◌, map, replicate, string_bytes}
use Rattle.texts.specs.declared.line.Line.{Line}
use Rattle.texts.specs.declared.view.Lines.{Lines}

abbrev pub told : Line → ℕ × List ℕ
told l = (l.number, l.text.now)

abbrev pub numbered_from : ℕ → List (List ℕ) → List (ℕ × List ℕ)
numbered_from n [] = []
numbered_from n (t ∷ ts) = (n, t) ∷ numbered_from (n + 1) ts

abbrev pub shown : Lines → List (ℕ × List ℕ)
shown v = numbered_from v.first (map string_bytes v.texts.now)

abbrev pub lines_before : List Line → ℕ
lines_before [] = 0
lines_before (l ∷ ls) = l.number - 1

abbrev pub drawn_from : List Line → List (List ℕ)
drawn_from ls = replicate (lines_before ls) [] ++ map (λ l. l.text.now) ls
