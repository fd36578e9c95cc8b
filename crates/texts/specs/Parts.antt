-- The line that begins a part of a job.
--     word_of p                  the word of the part p
--     missing_text m             that the part m is missing, byte by byte
--     FirstWords bs r q          what the words of the line bs are, as far as the second
--     begun_by p r q             a line of these words begins p
--     Begins p bs b              b tells whether the line bs begins p
--     Lacks p ls                 no line of ls begins p
--     IsFirst p ls i             line i of ls is the first that begins p
--     Cuts p ls before l behind  l is the first line of ls that begins p
--     FirstWord bs r s           r is the first word of the line bs, or that it has none, and s what is left behind it
--     IsLast s b                 b tells whether no word is left in s
--     BegunAlone a s b           b tells whether a line begins a heading whose word it has first, if a, and this behind it
--     BegunBy p r s b            b tells whether a line with this first word, and this behind it, begins p
--     IsBegunBy p bs b           b tells whether the line bs begins p, by no more of its words than tell it
--     LacksText p ts             none of the texts ts begins p
use Rattle.std.specs.Prelude.{◌≡◌, ℕ, ◌<◌, Bool, true, false, ◌&&◌, List, ◌∷◌, ◌++◌, codes, length, None, Some, Option, String, string_bytes, bytes_eq}
use Rattle.std.specs.List.{AllWithin, HoldsAt}
use Rattle.std.specs.Option.{is_none}
use Rattle.std.specs.Borrow.{Bor}
use Rattle.std.specs.Str.Iter.{split_whitespace_rest, split_whitespace_steps}
use Rattle.std.specs.declared.alloc.Global.{Global}
use Rattle.std.specs.declared.str.SplitWhitespace.{SplitWhitespace}
use Rattle.texts.specs.declared.line.Line.{Line}
use Rattle.texts.specs.declared.part.Missing.{Missing}
use Rattle.texts.specs.declared.part.Part.{Part}
use Rattle.texts.specs.declared.part.Part.TheVariants.{Heading, Setting}

abbrev pub word_of : Part → List ℕ
word_of (Heading w) = w.now
word_of (Setting w) = w.now

abbrev pub missing_text : Missing → List ℕ
missing_text m = codes "no line begins the " ++ word_of m.0

-- as `split_whitespace` gives them
abbrev pub FirstWords : List ℕ → Option (Bor (List ℕ)) → Option (Bor (List ℕ)) → Type 0
FirstWords bs r q = (s t u : SplitWhitespace) × (split_whitespace_rest s ≡ bs) × split_whitespace_steps s r t × split_whitespace_steps t q u

abbrev pub is_word : List ℕ → Option (Bor (List ℕ)) → Bool
is_word w None = false
is_word w (Some x) = bytes_eq x.now w

-- a heading has the word alone, a setting has it first
abbrev pub begun_by : Part → Option (Bor (List ℕ)) → Option (Bor (List ℕ)) → Bool
begun_by (Heading w) r q = is_word w.now r && is_none q
begun_by (Setting w) r q = is_word w.now r

abbrev pub Begins : Part → List ℕ → Bool → Type 0
Begins p bs b = (r q : Option (Bor (List ℕ))) × FirstWords bs r q × (b ≡ begun_by p r q)

abbrev pub Lacks : Part → List Line → Type 0
Lacks p ls = AllWithin (λ l. Begins p l.text.now false) ls 0 (length ls)

abbrev pub IsFirst : Part → List Line → ℕ → Type 0
IsFirst p ls i = (i < length ls) × HoldsAt (λ l. Begins p l.text.now true) ls i × AllWithin (λ l. Begins p l.text.now false) ls 0 i

pub record Cuts (p : Part) (ls before : List Line) (l : Line) (behind : List Line) : Type 0 where
  pub whole : ls ≡ before ++ l ∷ behind
  pub begun : Begins p l.text.now true
  pub first : Lacks p before

-- as `split_whitespace` gives it
abbrev pub FirstWord : List ℕ → Option (Bor (List ℕ)) → SplitWhitespace → Type 0
FirstWord bs r t = (s : SplitWhitespace) × (split_whitespace_rest s ≡ bs) × split_whitespace_steps s r t

abbrev pub IsLast : SplitWhitespace → Bool → Type 0
IsLast t b = (q : Option (Bor (List ℕ))) × (u : SplitWhitespace) × split_whitespace_steps t q u × (b ≡ is_none q)

-- behind another word than its own, nothing begins a heading
abbrev pub BegunAlone : Bool → SplitWhitespace → Bool → Type 0
BegunAlone false t b = b ≡ false
BegunAlone true t b = IsLast t b

-- a heading has the word alone, a setting has it first
abbrev pub BegunBy : Part → Option (Bor (List ℕ)) → SplitWhitespace → Bool → Type 0
BegunBy (Heading w) r t b = BegunAlone (is_word w.now r) t b
BegunBy (Setting w) r t b = b ≡ is_word w.now r

abbrev pub IsBegunBy : Part → List ℕ → Bool → Type 0
IsBegunBy p bs b = (r : Option (Bor (List ℕ))) × (t : SplitWhitespace) × FirstWord bs r t × BegunBy p r t b

abbrev pub LacksText : Part → List (String Global) → Type 0
LacksText p ts = AllWithin (λ t. IsBegunBy p (string_bytes t) false) ts 0 (length ts)
