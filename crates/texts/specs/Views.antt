-- What is said of listed lines, said of the lines that a view shows, each a number and a text.
--     before_in ls                 how many lines of the job stand before the lines ls
--     drawn_in ls                  the lines ls with as many blank ones before them
--     DrawsIn ls m                 m is the mask that is drawn in the lines ls
--     UndrawnIn ls e               e is why no mask is drawn in them, or want of memory
--     LacksIn p ls                 no line of ls begins p
--     CutsIn p ls before l behind  l is the first line of ls that begins p
--     IsFirstText p ts i           text i of ts is the first that begins p
--     RowFaultIn f l e             e is why the line l is no row
--     GridIn f ls s xs t ys        the lines ls make a sheet of the size s with the cells xs one of the size t with the cells ys
--     GridFaultIn f ls s xs e      e is why they make none
--     SheetReadIn f ls r           r is an answer to the lines ls of a sheet
use Rattle.std.specs.Prelude.{◌≡◌, ℕ, ◌-◌, ◌<◌, ◌⊎◌, true, false, List, [], ◌∷◌, ◌++◌, map, replicate, length, Ok, Err, Result, String, string_bytes, Vec, vec_items}
use Rattle.std.specs.List.{AllWithin, HoldsAt}
use Rattle.std.specs.Global.{Global}
use Rattle.masks.specs.declared.mask.Mask.{Mask}
use Rattle.drawings.specs.Signs.{marks}
use Rattle.drawings.specs.Readings.{Reads}
use Rattle.drawings.specs.Drawn.{Masks}
use Rattle.drawings.specs.declared.drawing.Drawing.{Drawing}
use Rattle.drawings.specs.declared.drawing.DrawingFault.{DrawingFault}
use Rattle.drawings.specs.declared.drawn.DrawnFault.{DrawnFault}
use Rattle.drawings.specs.declared.drawn.DrawnFault.TheVariants.{Unread}
use Rattle.sheets.specs.declared.holder.Size.{Size}
use Rattle.texts.specs.Parts.{IsBegunBy}
use Rattle.texts.specs.Sheets.{IsRow, HasOther, agrees, grown, none, takes}
use Rattle.texts.specs.declared.fault.JobFault.{JobFault}
use Rattle.texts.specs.declared.fault.JobFault.TheVariants.{Drawn, Memory as NoMemory}
use Rattle.texts.specs.declared.part.Part.{Part}
use Rattle.texts.specs.declared.sheet.SheetFault.{SheetFault}
use Rattle.texts.specs.declared.sheet.SheetFault.TheVariants.{NoCell, UnlikeRow, WrongSize, Memory}

abbrev pub before_in : List (ℕ × List ℕ) → ℕ
before_in [] = 0
before_in (l ∷ ls) = l.0 - 1

abbrev pub drawn_in : List (ℕ × List ℕ) → List (List ℕ)
drawn_in ls = replicate (before_in ls) [] ++ map (λ l. l.1) ls

abbrev pub DrawsIn : List (ℕ × List ℕ) → Mask → Type 0
DrawsIn ls m = (d : Drawing) × Reads (marks 1 (drawn_in ls)) (Ok d) × Masks d (Ok m)

-- the drawing cannot be read, or no mask can be made of its points
abbrev pub UndrawnIn : List (ℕ × List ℕ) → JobFault → Type 0
UndrawnIn ls e = (e ≡ NoMemory)
    ⊎ (((g : DrawingFault) × Reads (marks 1 (drawn_in ls)) (Err g) × (e ≡ Drawn (Unread g)))
    ⊎ ((d : Drawing) × (g : DrawnFault) × Reads (marks 1 (drawn_in ls)) (Ok d) × Masks d (Err g) × (e ≡ Drawn g)))

abbrev pub LacksIn : Part → List (ℕ × List ℕ) → Type 0
LacksIn p ls = AllWithin (λ l. IsBegunBy p l.1 false) ls 0 (length ls)

pub record CutsIn (p : Part) (ls before : List (ℕ × List ℕ)) (l : ℕ × List ℕ) (behind : List (ℕ × List ℕ)) : Type 0 where
  pub whole : ls ≡ before ++ l ∷ behind
  pub begun : IsBegunBy p l.1 true
  pub first : LacksIn p before

abbrev pub IsFirstText : Part → List (String Global) → ℕ → Type 0
IsFirstText p ts i = (i < length ts) × HoldsAt (λ t. IsBegunBy p (string_bytes t) true) ts i × AllWithin (λ t. IsBegunBy p (string_bytes t) false) ts 0 i

abbrev pub RowFaultIn : {T E : Type 0} → (List ℕ → Result T E → Type 0) → ℕ × List ℕ → SheetFault → Type 0
RowFaultIn f l e = (e ≡ Memory) ⊎ ((e ≡ NoCell l.0) × HasOther f l.1)

-- line by line, the northmost row first
abbrev pub GridIn : {T E : Type 0} → (List ℕ → Result T E → Type 0) → List (ℕ × List ℕ) → Size → List T → Size → List T → Type 0
GridIn f [] s xs t ys = (s ≡ t) × (xs ≡ ys)
GridIn {T} {E} f (l ∷ ls) s xs t ys = (n : ℕ) × (zs : List T) × IsRow f l.1 n xs zs × (agrees n s ≡ true) × GridIn f ls (grown n s) zs t ys

-- of the first line that is no row, or no row of this sheet
abbrev pub GridFaultIn : {T E : Type 0} → (List ℕ → Result T E → Type 0) → List (ℕ × List ℕ) → Size → List T → SheetFault → Type 0
GridFaultIn f [] s xs e = ⊥
GridFaultIn {T} {E} f (l ∷ ls) s xs e = RowFaultIn f l e
    ⊎ ((n : ℕ) × (zs : List T) × IsRow f l.1 n xs zs × (((agrees n s ≡ false) × (e ≡ UnlikeRow l.0)) ⊎ ((agrees n s ≡ true) × GridFaultIn f ls (grown n s) zs e)))

-- the sheet of the lines, where the filters take its size
abbrev pub SheetReadIn : {T E : Type 0} → (List ℕ → Result T E → Type 0) → List (ℕ × List ℕ) → Result (Size × Vec T Global) SheetFault → Type 0
SheetReadIn f ls (Ok p) = GridIn f ls none [] p.0 (vec_items p.1) × (takes p.0 ≡ true)
SheetReadIn {T} {E} f ls (Err e) = GridFaultIn f ls none [] e
    ⊎ ((s : Size) × (cs : List T) × GridIn f ls none [] s cs × (takes s ≡ false) × (e ≡ WrongSize (record { 0 = s })))
