-- What the reader's values stand for.
--     left s             what is left of a strip that is being read
--     Gives d s t r      r, the answer of a call that took the strip from s to t, is what the reading d gives at s
--     GivesAs f d s t r  the same, where f reads what is told from the answer
--     Passes d s t r     the same, where nothing but what is left is told
--     job_of s           the job that an accepted strip tells
--     steps_left s       the steps that are left
--     Reads r a          a, the reader's answer, is the reading r
use Rattle.std.specs.Prelude.{◌≡◌, List, map, Ok, Err, Result}
use Rattle.strips.specs.Words.{numbers}
use Rattle.strips.specs.Jobs.{Job, step_of}
use Rattle.strips.specs.Reading.{Left, from}
use Rattle.strips.specs.declared.fault.StripFault.{StripFault}
use Rattle.strips.specs.declared.strip.Strip.{Strip}
use Rattle.strips.specs.declared.job.JobStrip.{JobStrip}
use Rattle.strips.specs.declared.job.Steps.{Steps}
use Rattle.strips.specs.declared.parts.Step.{Step}

abbrev pub left : Strip → Left
left s = from s.place (numbers s.words.now)

abbrev pub GivesAs : {A B : Type 0} → (B → A) → (Left → Result (A × Left) StripFault) → Strip → Strip → Result B StripFault → Type 0
GivesAs f due s t (Ok x) = due (left s) ≡ Ok (f x, left t)
GivesAs f due s t (Err e) = due (left s) ≡ Err e

abbrev pub Gives : {A : Type 0} → (Left → Result (A × Left) StripFault) → Strip → Strip → Result A StripFault → Type 0
Gives due s t r = GivesAs (λ x. x) due s t r

abbrev pub Passes : {A : Type 0} → (Left → Result Left StripFault) → Strip → Strip → Result A StripFault → Type 0
Passes due s t (Ok x) = due (left s) ≡ Ok (left t)
Passes due s t (Err e) = due (left s) ≡ Err e

-- its raw words, and the steps that its other words are
abbrev pub job_of : JobStrip → Job
job_of s = record {
  kind = s.shape.kind;
  width = s.shape.width;
  height = s.shape.height;
  raws = numbers s.raws.now;
  window = s.window;
  steps = map step_of (numbers s.steps.now);
}

abbrev pub steps_left : Steps → List Step
steps_left s = map step_of (numbers s.words.now)

abbrev pub Reads : Result Job StripFault → Result JobStrip StripFault → Type 0
Reads r (Ok s) = r ≡ Ok (job_of s)
Reads r (Err f) = r ≡ Err f
