-- The kinds of cell by number, and their words.
--     kind_number k      the number of a kind of cell in a head
--     kind_of n          the kind of cell with that number, if there is one
--     given n            the kind of cell that a head gives by the number n, or the number, where no kind has it
--     given_number k     that number
--     kind_name k        its name, byte by byte
--     is_cell k w        the word w is a cell of the kind k
use Rattle.std.specs.Prelude.{ℕ, Bool, cond, List, codes, Some, None, Ok, Err, Option, Result, ok_or, ◌==◌, is_some}
use Rattle.cells.specs.Words.{gray_word, flags_word, height_word, return_word}
use Rattle.strips.specs.declared.kind.CellKind.{CellKind}
use Rattle.strips.specs.declared.kind.NoSuchKind.{NoSuchKind}
use Rattle.strips.specs.declared.kind.CellKind.TheVariants.{Gray, Height, Flags, Return}

abbrev pub kind_number : CellKind → ℕ
kind_number Gray = 1
kind_number Height = 2
kind_number Flags = 3
kind_number Return = 4

abbrev pub kind_of : ℕ → Option CellKind
kind_of n = cond (n == 1) (Some Gray) (cond (n == 2) (Some Height) (cond (n == 3) (Some Flags) (cond (n == 4) (Some Return) None)))

abbrev pub given : ℕ → Result CellKind NoSuchKind
given n = ok_or (kind_of n) (record { 0 = n })

abbrev pub given_number : Result CellKind NoSuchKind → ℕ
given_number (Ok k) = kind_number k
given_number (Err n) = n.0

abbrev pub kind_name : CellKind → List ℕ
kind_name Gray = codes "gray"
kind_name Height = codes "height"
kind_name Flags = codes "flags"
kind_name Return = codes "return"

-- by the word form of the kind
abbrev pub is_cell : CellKind → ℕ → Bool
is_cell Gray w = is_some (gray_word w)
is_cell Height w = is_some (height_word w)
is_cell Flags w = is_some (flags_word w)
is_cell Return w = is_some (return_word w)
