-- The parts of a reading, one after the other: what is still to be done behind each, and what an accepted strip passed.
use Rattle.std.proofs.Common.{◌≡◌, ℕ, ◌*◌, List, map, take, Option, Result, Ok}
use Rattle.strips.specs.Jobs.{Job, step_of}
use Rattle.strips.specs.Reading.{Left, from, ◌>>=◌, shape_due, count_due, raws_due, window_due, steps_due, ended, job_from}
use Rattle.strips.specs.declared.parts.Shape.{Shape}
use Rattle.sheets.specs.declared.window.Rectangle.{Rectangle}
use Rattle.strips.specs.declared.fault.StripFault.{StripFault}
use Rattle.strips.proofs.Shapes.{bind_ok, ok_is}

-- the job of its parts
abbrev pub made : Shape → ℕ → List ℕ → Option Rectangle → ℕ → List ℕ → Job
made s c cells f k steps = record { kind = s.kind; width = s.width; height = s.height; raws = take c cells; window = f; steps = map step_of (take k steps) }

abbrev pub past_end : Shape → ℕ × Left → Option Rectangle × Left → ℕ × Left → Left → Result Job StripFault
past_end s c f k x = Ok (made s c.0 c.1.words f.0 k.0 f.1.words)

module _ (n : ℕ) where
  abbrev pub past_steps : Shape → ℕ × Left → Option Rectangle × Left → ℕ × Left → Result Job StripFault
  past_steps s c f k = ended n k.1 >>= past_end s c f k

  abbrev pub past_window : Shape → ℕ × Left → Option Rectangle × Left → Result Job StripFault
  past_window s c f = steps_due f.1 >>= past_steps s c f

  abbrev pub past_raws : Shape → ℕ × Left → Left → Result Job StripFault
  past_raws s c r = window_due r >>= past_window s c

  abbrev pub past_count : Shape → ℕ × Left → Result Job StripFault
  past_count s c = raws_due s.kind c.0 c.1 >>= past_raws s c

  abbrev pub past_shape : Shape × Left → Result Job StripFault
  past_shape s = count_due (s.0.width * s.0.height) s.1 >>= past_count s.0

-- what each part gave of an accepted strip
pub record Passed (n : ℕ) (ws : List ℕ) (j : Job) : Type 0 where
  pub s : Shape × Left
  pub c : ℕ × Left
  pub r : Left
  pub f : Option Rectangle × Left
  pub k : ℕ × Left
  pub x : Left
  pub shape : shape_due (from 0 ws) ≡ Ok s
  pub count : count_due (s.0.width * s.0.height) s.1 ≡ Ok c
  pub raws : raws_due s.0.kind c.0 c.1 ≡ Ok r
  pub window : window_due r ≡ Ok f
  pub steps : steps_due f.1 ≡ Ok k
  pub end : ended n k.1 ≡ Ok x
  pub job : made s.0 c.0 c.1.words f.0 k.0 f.1.words ≡ j

pub passed : (n : ℕ) (ws : List ℕ) (j : Job) → job_from n ws ≡ Ok j → Passed n ws j
unfolding job_from
passed n ws j e =
    let s = bind_ok (shape_due (from 0 ws)) (past_shape n) j e in
    let c = bind_ok (count_due (s.0.0.width * s.0.0.height) s.0.1) (past_count n s.0.0) j s.2 in
    let r = bind_ok (raws_due s.0.0.kind c.0.0 c.0.1) (past_raws n s.0.0 c.0) j c.2 in
    let f = bind_ok (window_due r.0) (past_window n s.0.0 c.0) j r.2 in
    let k = bind_ok (steps_due f.0.1) (past_steps n s.0.0 c.0 f.0) j f.2 in
    let x = bind_ok (ended n k.0.1) (past_end s.0.0 c.0 f.0 k.0) j k.2 in
    record {
      s = s.0;
      c = c.0;
      r = r.0;
      f = f.0;
      k = k.0;
      x = x.0;
      shape = s.1;
      count = c.1;
      raws = r.1;
      window = f.1;
      steps = k.1;
      end = x.1;
      job = ok_is (made s.0.0 c.0.0 c.0.1.words f.0.0 k.0.0 f.0.1.words) j x.2;
    }
