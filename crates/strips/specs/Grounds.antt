-- The number of a refusal, by what stands at the word that is told.
--     announced ws       how many raw words the first word announces, if it is a head
--     is_raw ws i        word i is one of them
--     by_item i o        the number, by what the word i says
--     by_word ws i o     the number, by the word o that stands at i, if one does
--     Whole ws           the words are those of a sound job
--     Numbered ws f      f has the number of what is wrong at the word that it tells
use Rattle.std.specs.Prelude.{◌≡◌, ℕ, ◌+◌, ◌*◌, Bool, false, cond, ◌&&◌, ◌⊎◌, List, take, Some, None, Option, ◌==◌, nat_le, nat_lt}
use Rattle.std.specs.List.{slice_get}
use Rattle.std.specs.Option.{option_and_then}
use Rattle.strips.specs.Items.{item_of}
use Rattle.strips.specs.Faults.{number, told_word}
use Rattle.strips.specs.Jobs.{Job, Sound, job_words}
use Rattle.strips.specs.declared.item.Item.{Item}
use Rattle.strips.specs.declared.item.Item.TheVariants.{Head, Cells}
use Rattle.strips.specs.declared.fault.StripFault.{StripFault}

abbrev pub cells_of : Option Item → ℕ
cells_of (Some (Head n w h)) = w * h
cells_of _ = 0

abbrev pub announced : List ℕ → ℕ
announced ws = cells_of (option_and_then item_of (slice_get ws 0))

abbrev pub is_raw : List ℕ → ℕ → Bool
is_raw ws i = nat_le 2 i && nat_lt i (2 + announced ws)

-- the head is due at word 0, the cells word at word 1
abbrev pub in_place : ℕ → Item → Bool
in_place i (Head n w h) = i == 0
in_place i (Cells n) = i == 1
in_place i _ = false

-- 3: it says nothing; 5: it is the head or the cells word that is due; 4: it is not due
abbrev pub by_item : ℕ → Option Item → ℕ
by_item i None = 3
by_item i (Some x) = cond (in_place i x) 5 4

-- 2: none stands there; 6: it is a raw word
abbrev pub by_word : List ℕ → ℕ → Option ℕ → ℕ
by_word ws i None = 2
by_word ws i (Some w) = cond (is_raw ws i) 6 (by_item i (item_of w))

abbrev pub Whole : List ℕ → Type 0
Whole ws = (j : Job) × Sound j × (job_words j ≡ ws)

-- 4 where the words before it are a whole strip, else by the word
abbrev pub Numbered : List ℕ → StripFault → Type 0
Numbered ws f =
    (Whole (take (told_word f) ws) × (number f ≡ 4))
    ⊎ ((Whole (take (told_word f) ws) → ⊥) × (number f ≡ by_word ws (told_word f) (slice_get ws (told_word f))))
