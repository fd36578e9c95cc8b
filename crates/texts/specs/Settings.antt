-- The value of a setting, a line with one word behind the first.
--     FirstThree bs p q r   what the words of the line bs are, as far as the third
--     behind p q r          the word behind the first, where no other follows
--     IsAlone bs w          w is that word of the line bs, if there is one
--     Valued f bs o         o is the value that the line bs has, where f says how a text is read
use Rattle.std.specs.Prelude.{◌≡◌, ℕ, cond, ◌&&◌, List, None, Some, Option, Result, is_some}
use Rattle.std.specs.Borrow.{Bor}
use Rattle.std.specs.Option.{is_none}
use Rattle.std.specs.Result.{result_ok}
use Rattle.std.specs.Str.Iter.{split_whitespace_rest, split_whitespace_steps}
use Rattle.std.specs.declared.str.SplitWhitespace.{SplitWhitespace}

-- as `split_whitespace` gives them
abbrev pub FirstThree : List ℕ → Option (Bor (List ℕ)) → Option (Bor (List ℕ)) → Option (Bor (List ℕ)) → Type 0
FirstThree bs p q r = (s t u v : SplitWhitespace) × (split_whitespace_rest s ≡ bs)
    × split_whitespace_steps s p t × split_whitespace_steps t q u × split_whitespace_steps u r v

abbrev pub behind : Option (Bor (List ℕ)) → Option (Bor (List ℕ)) → Option (Bor (List ℕ)) → Option (Bor (List ℕ))
behind p q r = cond (is_some p && is_none r) q None

abbrev pub IsAlone : List ℕ → Option (Bor (List ℕ)) → Type 0
IsAlone bs w = (p q r : Option (Bor (List ℕ))) × FirstThree bs p q r × (w ≡ behind p q r)

-- no word is no value, and a word that is read as none is no value either
abbrev pub ReadAs : {T E : Type 0} → (List ℕ → Result T E → Type 0) → Option (Bor (List ℕ)) → Option T → Type 0
ReadAs f None o = o ≡ None
ReadAs {T} {E} f (Some w) o = (x : Result T E) × f w.now x × (o ≡ result_ok x)

abbrev pub Valued : {T E : Type 0} → (List ℕ → Result T E → Type 0) → List ℕ → Option T → Type 0
Valued f bs o = (w : Option (Bor (List ℕ))) × IsAlone bs w × ReadAs f w o
