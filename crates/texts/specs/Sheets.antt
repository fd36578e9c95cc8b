-- The rows of a sheet, as the lines of a job write them. What a word is read as is told by f.
--     ReadAll f ws cs       the words ws are read as the cells cs, each as the one at its place
--     IsRow f bs n xs ys    ys is xs and the n cells that the words of the line bs are read as
--     HasOther f bs         a word of the line bs is read as none, the first such
--     RowFault f l e        e is why the line l is no row
--     agrees n s            a row of n cells may stand below a sheet of the size s
--     grown n s             the size with that row
--     Grid f ls s xs t ys   the lines ls make a sheet of the size s with the cells xs one of the size t with the cells ys
--     GridFault f ls s xs e  e is why they make none
--     SheetRead f ls r      r is an answer to the lines ls of a sheet
use Rattle.std.specs.Prelude.{◌≡◌, ℕ, ◌+◌, ◌⊎◌, Bool, true, false, cond, ◌&&◌, ◌||◌, List, [], ◌∷◌, ◌++◌, ◌==◌, length, Some, Ok, Err, Result, Vec, vec_items}
use Rattle.std.specs.Borrow.{Bor}
use Rattle.std.specs.Global.{Global}
use Rattle.std.specs.Iterator.{Drains, YieldsThen}
use Rattle.std.specs.Str.Iter.{split_whitespace_rest, split_whitespace_steps}
use Rattle.std.specs.declared.str.SplitWhitespace.{SplitWhitespace}
use Rattle.sheets.specs.declared.holder.Size.{Size}
use Rattle.morphology.specs.Refusals.{fits}
use Rattle.texts.specs.declared.line.Line.{Line}
use Rattle.texts.specs.declared.sheet.SheetFault.{SheetFault}
use Rattle.texts.specs.declared.sheet.SheetFault.TheVariants.{NoCell, UnlikeRow, WrongSize, Memory}

abbrev pub ReadAll : {T E : Type 0} → (List ℕ → Result T E → Type 0) → List (Bor (List ℕ)) → List T → Type 0
ReadAll f [] [] = Unit {0}
ReadAll f [] (c ∷ cs) = ⊥
ReadAll f (w ∷ ws) [] = ⊥
ReadAll f (w ∷ ws) (c ∷ cs) = f w.now (Ok c) × ReadAll f ws cs

-- the words as `split_whitespace` gives them; their cells stand behind those that were there
abbrev pub IsRow : {T E : Type 0} → (List ℕ → Result T E → Type 0) → List ℕ → ℕ → List T → List T → Type 0
IsRow {T} {E} f bs n xs ys = (s : SplitWhitespace) × (ws : List (Bor (List ℕ))) × (cs : List T) × (split_whitespace_rest s ≡ bs)
    × Drains split_whitespace_steps s ws × ReadAll f ws cs × (ys ≡ xs ++ cs) × (n ≡ length cs)

-- all before it are read as cells
abbrev pub HasOther : {T E : Type 0} → (List ℕ → Result T E → Type 0) → List ℕ → Type 0
HasOther {T} {E} f bs = (s u : SplitWhitespace) × (ws : List (Bor (List ℕ))) × (cs : List T) × (x : Bor (List ℕ)) × (e : E) × (split_whitespace_rest s ≡ bs)
    × YieldsThen split_whitespace_steps s ws (Some x) u × ReadAll f ws cs × f x.now (Err e)

abbrev pub RowFault : {T E : Type 0} → (List ℕ → Result T E → Type 0) → Line → SheetFault → Type 0
RowFault f l e = (e ≡ Memory) ⊎ ((e ≡ NoCell l.number) × HasOther f l.text.now)

-- a line without cells is no row; the others have as many as the first
abbrev pub agrees : ℕ → Size → Bool
agrees n s = n == 0 || (s.height == 0 || n == s.width)

abbrev pub grown : ℕ → Size → Size
grown n s = cond (n == 0) s (record { width = n; height = s.height + 1 })

-- line by line, the northmost row first
abbrev pub Grid : {T E : Type 0} → (List ℕ → Result T E → Type 0) → List Line → Size → List T → Size → List T → Type 0
Grid f [] s xs t ys = (s ≡ t) × (xs ≡ ys)
Grid {T} {E} f (l ∷ ls) s xs t ys = (n : ℕ) × (zs : List T) × IsRow f l.text.now n xs zs × (agrees n s ≡ true) × Grid f ls (grown n s) zs t ys

-- of the first line that is no row, or no row of this sheet
abbrev pub GridFault : {T E : Type 0} → (List ℕ → Result T E → Type 0) → List Line → Size → List T → SheetFault → Type 0
GridFault f [] s xs e = ⊥
GridFault {T} {E} f (l ∷ ls) s xs e = RowFault f l e
    ⊎ ((n : ℕ) × (zs : List T) × IsRow f l.text.now n xs zs × (((agrees n s ≡ false) × (e ≡ UnlikeRow l.number)) ⊎ ((agrees n s ≡ true) × GridFault f ls (grown n s) zs e)))

abbrev pub none : Size
none = record { width = 0; height = 0 }

-- the filters take a sheet of the size
abbrev pub takes : Size → Bool
takes s = fits s.width && fits s.height

-- the sheet of the lines, where the filters take its size
abbrev pub SheetRead : {T E : Type 0} → (List ℕ → Result T E → Type 0) → List Line → Result (Size × Vec T Global) SheetFault → Type 0
SheetRead f ls (Ok p) = Grid f ls none [] p.0 (vec_items p.1) × (takes p.0 ≡ true)
SheetRead {T} {E} f ls (Err e) = GridFault f ls none [] e
    ⊎ ((s : Size) × (cs : List T) × Grid f ls none [] s cs × (takes s ≡ false) × (e ≡ WrongSize (record { 0 = s })))
