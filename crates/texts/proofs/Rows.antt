-- A word more is a cell more, and what is wrong with the next line is wrong with the lines that are left.
use Rattle.std.proofs.Common.{ℕ, ◌+◌, ◌<◌, List, [], ◌∷◌, ◌++◌, Ok, Result, Bor, length, drop, get_or, sym, subst}
use Rattle.std.proofs.lemmas.List.{drop_more}
use Rattle.sheets.specs.declared.holder.Size.{Size}
use Rattle.texts.specs.Sheets.{ReadAll, GridFault}
use Rattle.texts.specs.declared.line.Line.{Line}
use Rattle.texts.specs.declared.sheet.SheetFault.{SheetFault}

pub read-more : {T E : Type 0} (f : List ℕ → Result T E → Type 0) (ws : List (Bor (List ℕ))) (cs : List T) (w : Bor (List ℕ)) (c : T) →
    ReadAll f ws cs → f w.now (Ok c) → ReadAll f (ws ++ w ∷ []) (cs ++ c ∷ [])
read-more f [] [] w c all one = (one, tt)
read-more f [] (d ∷ cs) w c all one = elim all [ ]
read-more f (v ∷ ws) [] w c all one = elim all [ ]
read-more f (v ∷ ws) (d ∷ cs) w c all one = (all.0, read-more f ws cs w c all.1 one)

pub fault-here : {T E : Type 0} (f : List ℕ → Result T E → Type 0) (ls : List Line) (i : ℕ) (d : Line) (s : Size) (xs : List T) (e : SheetFault) →
    i < length ls → GridFault f (get_or ls i d ∷ drop (i + 1) ls) s xs e → GridFault f (drop i ls) s xs e
fault-here f ls i d s xs e inside here = subst (λ (ks : List Line). GridFault f ks s xs e) (sym (drop_more ls i d inside)) here
