-- Lists that are lent to be written over.
--     written over xs    xs with the list `over` written over its front
use Rattle.std.specs.Prelude.{List, ◌++◌, length, drop}

-- the rest stays as it was
abbrev pub written : {X : Type 0} → List X → List X → List X
written over xs = over ++ drop (length over) xs
