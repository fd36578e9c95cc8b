-- What an answer of the reader means, in words that the reading does not share.
--     Told bs j          bs is the strip of the job j
--     OneJob             a strip tells one job
--     Begins i ws        the first i of the words ws begin the strip of a sound job
--     Earliest ws f      of the words ws, f tells the first with which no job's strip begins
--     TellsFirst bs f    so f does of the bytes bs, if they are not too long for a strip
--     TellsGround bs f   f has the number of what is wrong there; 1 for just those that are too long
use Rattle.std.specs.Prelude.{◌≡◌, ℕ, ◌+◌, ◌<◌, ◌≤◌, ◌↔◌, List, ◌++◌, length, take}
use Rattle.strips.specs.Words.{words}
use Rattle.strips.specs.Faults.{number, told_word}
use Rattle.strips.specs.Grounds.{Numbered}
use Rattle.strips.specs.Jobs.{Job, Sound, Proper, job_words, layout}
use Rattle.strips.specs.declared.fault.StripFault.{StripFault}

pub record Told (bs : List ℕ) (j : Job) : Type 0 where
  pub proper : Proper j
  pub spelled : layout j ≡ bs

abbrev pub OneJob : Type 0
OneJob = (bs : List ℕ) (j k : Job) → Told bs j → Told bs k → j ≡ k

-- the first i words are there, and the words of a job go on from them
pub record Begins (i : ℕ) (ws : List ℕ) : Type 0 where
  pub there : i ≤ length ws
  pub job : Job
  pub sound : Sound job
  pub more : List ℕ
  pub begun : job_words job ≡ take i ws ++ more

-- the words before the one told begin the strip of some job; with it, or where it is not there, they begin none
abbrev pub Earliest : List ℕ → StripFault → Type 0
Earliest ws f = Begins (told_word f) ws × (Begins (told_word f + 1) ws → ⊥)

abbrev pub TellsFirst : List ℕ → StripFault → Type 0
TellsFirst bs f = length bs ≤ 65536 → Earliest (words bs) f

abbrev pub TellsGround : List ℕ → StripFault → Type 0
TellsGround bs f = (number f ≡ 1 ↔ 65536 < length bs) × (length bs ≤ 65536 → Numbered (words bs) f)
