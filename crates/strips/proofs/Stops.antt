-- Where the reading of a strip stops.
use Rattle.std.proofs.Common.{◌≡◌, ℕ, ◌*◌, List, Option, Result, Ok, Err, ◌⊎◌, inl, inr, ap, ◌∙◌}
use Rattle.strips.specs.Jobs.{Job}
use Rattle.strips.specs.Reading.{Left, from, ◌>>=◌, shape_due, count_due, raws_due, window_due, steps_due, ended, job_from}
use Rattle.strips.specs.declared.parts.Shape.{Shape}
use Rattle.sheets.specs.declared.window.Rectangle.{Rectangle}
use Rattle.strips.specs.declared.fault.StripFault.{StripFault}
use Rattle.strips.proofs.Passed.{past_end, past_steps, past_window, past_raws, past_count, past_shape, passed}
use Rattle.strips.proofs.Steady.{bind_err, bare, parts}

-- a refusal comes of one of the parts, and those before it were passed
pub stopped : {P : Type 0} (n : ℕ) (ws : List ℕ) (f : StripFault) → job_from n ws ≡ Err f
    → (shape_due (from 0 ws) ≡ Err f → P)
    → ((s : Shape × Left) → shape_due (from 0 ws) ≡ Ok s → count_due (s.0.width * s.0.height) s.1 ≡ Err f → P)
    → ((s : Shape × Left) (c : ℕ × Left) → shape_due (from 0 ws) ≡ Ok s → count_due (s.0.width * s.0.height) s.1 ≡ Ok c → raws_due s.0.kind c.0 c.1 ≡ Err f → P)
    → ((s : Shape × Left) (c : ℕ × Left) (r : Left) → shape_due (from 0 ws) ≡ Ok s → count_due (s.0.width * s.0.height) s.1 ≡ Ok c → raws_due s.0.kind c.0 c.1 ≡ Ok r → window_due r ≡ Err f → P)
    → ((s : Shape × Left) (c : ℕ × Left) (r : Left) (g : Option Rectangle × Left) → shape_due (from 0 ws) ≡ Ok s → count_due (s.0.width * s.0.height) s.1 ≡ Ok c → raws_due s.0.kind c.0 c.1 ≡ Ok r → window_due r ≡ Ok g → steps_due g.1 ≡ Err f → P)
    → ((s : Shape × Left) (c : ℕ × Left) (r : Left) (g : Option Rectangle × Left) (k : ℕ × Left) → shape_due (from 0 ws) ≡ Ok s → count_due (s.0.width * s.0.height) s.1 ≡ Ok c → raws_due s.0.kind c.0 c.1 ≡ Ok r → window_due r ≡ Ok g → steps_due g.1 ≡ Ok k → ended n k.1 ≡ Err f → P)
    → P
unfolding job_from
stopped n ws f e p1 p2 p3 p4 p5 p6 =
    elim (bind_err (shape_due (from 0 ws)) (past_shape n) f e) [
      | inl h ↦ p1 h
      | inr s ↦ elim (bind_err (count_due (s.0.0.width * s.0.0.height) s.0.1) (past_count n s.0.0) f s.2) [
        | inl h ↦ p2 s.0 s.1 h
        | inr c ↦ elim (bind_err (raws_due s.0.0.kind c.0.0 c.0.1) (past_raws n s.0.0 c.0) f c.2) [
          | inl h ↦ p3 s.0 c.0 s.1 c.1 h
          | inr r ↦ elim (bind_err (window_due r.0) (past_window n s.0.0 c.0) f r.2) [
            | inl h ↦ p4 s.0 c.0 r.0 s.1 c.1 r.1 h
            | inr g ↦ elim (bind_err (steps_due g.0.1) (past_steps n s.0.0 c.0 g.0) f g.2) [
              | inl h ↦ p5 s.0 c.0 r.0 g.0 s.1 c.1 r.1 g.1 h
              | inr k ↦ elim (bind_err (ended n k.0.1) (past_end s.0.0 c.0 g.0 k.0) f k.2) [
                | inl h ↦ p6 s.0 c.0 r.0 g.0 k.0 s.1 c.1 r.1 g.1 k.1 h
                | inr x ↦ absurd (let q = x.2 in cc)
              ]
            ]
          ]
        ]
      ]
    ]

-- the parts, each by what it gave
abbrev after_steps : ℕ × Left → Result (Unit {0} × Left) StripFault
after_steps k = bare k.1

abbrev after_window : Option Rectangle × Left → Result (Unit {0} × Left) StripFault
after_window f = steps_due f.1 >>= after_steps

abbrev after_raws : Unit {0} × Left → Result (Unit {0} × Left) StripFault
after_raws r = window_due r.1 >>= after_window

abbrev after_count : Shape → ℕ × Left → Result (Unit {0} × Left) StripFault
after_count s c = (raws_due s.kind c.0 c.1 >>= bare) >>= after_raws

abbrev after_shape : Shape × Left → Result (Unit {0} × Left) StripFault
after_shape s = count_due (s.0.width * s.0.height) s.1 >>= after_count s.0

pub parts_1 : (ws : List ℕ) (r : Result (Shape × Left) StripFault) → shape_due (from 0 ws) ≡ r → parts (from 0 ws) ≡ (r >>= after_shape)
unfolding parts
parts_1 ws r h = ap (λ (z : Result (Shape × Left) StripFault). z >>= after_shape) h

pub parts_2 : (ws : List ℕ) (s : Shape × Left) (r : Result (ℕ × Left) StripFault) → shape_due (from 0 ws) ≡ Ok s → count_due (s.0.width * s.0.height) s.1 ≡ r → parts (from 0 ws) ≡ (r >>= after_count s.0)
parts_2 ws s r hs h = parts_1 ws (Ok s) hs ∙ ap (λ (z : Result (ℕ × Left) StripFault). z >>= after_count s.0) h

pub parts_3 : (ws : List ℕ) (s : Shape × Left) (c : ℕ × Left) (r : Result Left StripFault) → shape_due (from 0 ws) ≡ Ok s → count_due (s.0.width * s.0.height) s.1 ≡ Ok c → raws_due s.0.kind c.0 c.1 ≡ r → parts (from 0 ws) ≡ ((r >>= bare) >>= after_raws)
parts_3 ws s c r hs hc h = parts_2 ws s (Ok c) hs hc ∙ ap (λ (z : Result Left StripFault). (z >>= bare) >>= after_raws) h

pub parts_4 : (ws : List ℕ) (s : Shape × Left) (c : ℕ × Left) (m : Left) (r : Result (Option Rectangle × Left) StripFault) → shape_due (from 0 ws) ≡ Ok s → count_due (s.0.width * s.0.height) s.1 ≡ Ok c → raws_due s.0.kind c.0 c.1 ≡ Ok m → window_due m ≡ r
    → parts (from 0 ws) ≡ (r >>= after_window)
parts_4 ws s c m r hs hc hm h = parts_3 ws s c (Ok m) hs hc hm ∙ ap (λ (z : Result (Option Rectangle × Left) StripFault). z >>= after_window) h

pub parts_5 : (ws : List ℕ) (s : Shape × Left) (c : ℕ × Left) (m : Left) (g : Option Rectangle × Left) (r : Result (ℕ × Left) StripFault) → shape_due (from 0 ws) ≡ Ok s → count_due (s.0.width * s.0.height) s.1 ≡ Ok c → raws_due s.0.kind c.0 c.1 ≡ Ok m → window_due m ≡ Ok g
    → steps_due g.1 ≡ r → parts (from 0 ws) ≡ (r >>= after_steps)
parts_5 ws s c m g r hs hc hm hg h = parts_4 ws s c m (Ok g) hs hc hm hg ∙ ap (λ (z : Result (ℕ × Left) StripFault). z >>= after_steps) h

-- a refusal is one of the parts, or of the end
pub parts_refused : (n : ℕ) (ws : List ℕ) (f : StripFault) → job_from n ws ≡ Err f → (parts (from 0 ws) ≡ Err f) ⊎ ((m : Left) × (parts (from 0 ws) ≡ Ok (tt, m)) × (ended n m ≡ Err f))
parts_refused n ws f e =
    stopped {P = (parts (from 0 ws) ≡ Err f) ⊎ ((m : Left) × (parts (from 0 ws) ≡ Ok (tt, m)) × (ended n m ≡ Err f))} n ws f e
    (λ h. inl (parts_1 ws (Err f) h))
    (λ s hs h. inl (parts_2 ws s (Err f) hs h))
    (λ s c hs hc h. inl (parts_3 ws s c (Err f) hs hc h))
    (λ s c m hs hc hm h. inl (parts_4 ws s c m (Err f) hs hc hm h))
    (λ s c m g hs hc hm hg h. inl (parts_5 ws s c m g (Err f) hs hc hm hg h))
    (λ s c m g k hs hc hm hg hk h. inr (k.1, parts_5 ws s c m g (Ok k) hs hc hm hg hk, h))

-- an accepted strip passed the parts, and ended
pub parts_passed : (n : ℕ) (ws : List ℕ) (j : Job) → job_from n ws ≡ Ok j → (m x : Left) × (parts (from 0 ws) ≡ Ok (tt, m)) × (ended n m ≡ Ok x)
parts_passed n ws j e =
    let P = passed n ws j e in
    (P.k.1, P.x, parts_5 ws P.s P.c P.r P.f (Ok P.k) P.shape P.count P.raws P.window P.steps, P.end)
