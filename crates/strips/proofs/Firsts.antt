-- A refusal is told with the first word that begins the strip of no job.
use Rattle.std.proofs.Common.{◌≡◌, ◌<◌, ℕ, zero, suc, ◌+◌, ◌-◌, ◌*◌, ◌≤◌, Bool, true, false, cond, List, [], ◌∷◌, ◌++◌, length, map, take, Option, Some, None, Result, Ok, Err, ◌⊎◌, inl, inr, refl, sym, ap, subst, ◌∙◌, arith, lit<, append_assoc, length-append}
use Rattle.std.specs.Prelude.{◌==◌, IfErr}
use Rattle.std.specs.List.{AllByRecursion}
use Rattle.std.proofs.lemmas.List.{take_at, append-nil}
use Rattle.std.proofs.lemmas.Bool.{le-ltb}
use Rattle.strips.specs.Words.{words, over}
use Rattle.strips.specs.Kinds.{is_cell}
use Rattle.strips.specs.Items.{item_of, item_word, Fits}
use Rattle.strips.specs.Faults.{number, told_word}
use Rattle.strips.specs.Jobs.{Job, step_item, extent, window_words, step_words, step_of, IsRaw, Sound, job_words}
use Rattle.strips.specs.Reading.{Left, from, ◌>>=◌, word_due, shape_due, count_due, cell_due, raws_due, frame_due, corner_of, said, is_step, begins, window_due, one_more, steps_from, ended, job_from, reading}
use Rattle.strips.specs.Laws.{Begins, TellsFirst}
use Rattle.strips.specs.Views.{Reads}
use Rattle.strips.specs.declared.kind.CellKind.{CellKind}
use Rattle.strips.specs.declared.kind.CellKind.TheVariants.{Gray, Height, Flags, Return}
use Rattle.strips.specs.declared.item.Item.{Item}
use Rattle.strips.specs.declared.item.Item.TheVariants.{Head, Cells, Corner, End}
use Rattle.strips.specs.declared.parts.Shape.{Shape}
use Rattle.sheets.specs.declared.window.Rectangle.{Rectangle}
use Rattle.strips.specs.declared.parts.Step.{Step}
use Rattle.strips.specs.declared.job.JobStrip.{JobStrip}
use Rattle.strips.specs.declared.fault.StripFault.{StripFault}
use Rattle.strips.specs.declared.fault.StripFault.TheVariants.{TooLong, At}
use Rattle.strips.specs.declared.fault.Ground.TheVariants.{CutShort, OutOfOrder, NoCell}
use Rattle.strips.proofs.Items.{chosen}
use Rattle.strips.proofs.Shapes.{bind_ok, ok_is, said_is}
use Rattle.strips.proofs.Loops.{beside, step_at, steps_first, steps_none}
use Rattle.strips.proofs.Taken.{AreWords, part_takes, TheHead, TheWindow, TheSteps, shape_takes, count_takes, raws_takes, cell_takes, cell_none, corner_is, window_takes, IsStep, step_is, steps_take}
use Rattle.strips.proofs.Spelled.{AreBytes, words_fit}
use Rattle.strips.proofs.Again.{job_again}
use Rattle.strips.proofs.Steady.{Agree, bind_err, err_is, item_single, corner_part, extent_part, frame_parts, parts, steady_parts, shape_place, count_place, cell_place, corner_place, extent_place, step_at_place, one_more_err}
use Rattle.strips.proofs.Stops.{stopped, parts_refused, parts_passed}

-- ---- with the word that is told, no job's strip begins

agree_take : (n : ℕ) (ws more : List ℕ) → n ≤ length ws → Agree n ws (take n ws ++ more)
agree_take zero ws more h = tt
agree_take (suc n) [] more h = absurd (omega arith)
agree_take (suc n) (w ∷ ws) more h = (refl, agree_take n ws more (omega arith))

-- the end is refused wherever a word is left
ended_first : (n k i : ℕ) (ws us : List ℕ) (f : StripFault) → ended n (from i ws) ≡ Err f → Agree 1 ws us → ended k (from i us) ≡ Err f
ended_first n k i [] us f e same = absurd same
ended_first n k i (w ∷ ws) [] f e same = absurd same
ended_first n k i (w ∷ ws) (u ∷ us) f e same = e

pub ended_at : (n i : ℕ) (ws : List ℕ) (f : StripFault) → ended n (from i ws) ≡ Err f → told_word f ≡ i
ended_at n i [] f e =
    elim (chosen (n == 0) (Ok (from i [])) (Err (At OutOfOrder i)) (Err f) e) [
      | inl p ↦ absurd (let q = p.1 in cc)
      | inr p ↦ sym (ap told_word (err_is {A = Left} (At OutOfOrder i) f p.1))
    ]
ended_at n i (w ∷ ws) f e = sym (ap told_word (err_is {A = Left} (At OutOfOrder i) f e))

-- it cannot have passed and been refused at once
refused_end : (k : ℕ) (m x l : Left) (f : StripFault) (r : Result (Unit {0} × Left) StripFault) → r ≡ Ok (tt, m) → r ≡ Ok (tt, l) → ended k m ≡ Ok x → ended k l ≡ Err f → ⊥
refused_end k m x l f r passed passed-too done refused =
    let one : Unit {0} × Left = (tt, m) in
    let two : Unit {0} × Left = (tt, l) in
    let same : m ≡ l = ap (λ (q : Unit {0} × Left). q.1) (ok_is one two (sym passed ∙ passed-too)) in
    let both = ap (ended k) same in
    cc

-- a strip that goes on otherwise behind the word that is told is refused too
refused_again : (n k : ℕ) (ws vs : List ℕ) (f : StripFault) (j : Job) → job_from n ws ≡ Err f → Agree (suc (told_word f)) ws vs → job_from k vs ≡ Ok j → ⊥
refused_again n k ws vs f j e same ok =
    let p = parts_passed k vs j ok in
    elim (parts_refused n ws f e) [
      | inl h ↦ (
          let r = steady_parts.refused 0 ws f h in
          let at : r.0 ≡ told_word f = omega (arith, r.1) in
          let no : parts (from 0 vs) ≡ Err f = r.2 vs (subst (λ (q : ℕ). Agree (suc q) ws vs) (sym at) same) in
          let yes = p.2 in
          cc)
      | inr q ↦ (
          let t = steady_parts.passed 0 ws tt q.0 q.1 in
          let at : told_word f ≡ t.0 + 0 = omega (arith, t.1, ended_at n q.0.place q.0.words f q.2) in
          let u = t.2 0 (told_word f) vs at same in
          refused_end k p.0 p.1 (from q.0.place u.0) f (parts (from 0 vs)) p.2 u.1 p.3 (ended_first n k q.0.place q.0.words u.0 f q.2 u.2))
    ]

pub none_begins : (n : ℕ) (ws : List ℕ) (f : StripFault) → job_from n ws ≡ Err f → Begins (told_word f + 1) ws → ⊥
none_begins n ws f e b =
    let more : told_word f + 1 ≡ suc (told_word f) = omega arith in
    let same : Agree (told_word f + 1) ws (job_words b.job) = subst (λ (vs : List ℕ). Agree (told_word f + 1) ws vs) (sym b.begun) (agree_take (told_word f + 1) ws b.more b.there) in
    refused_again n 0 ws (job_words b.job) f b.job e (subst (λ (q : ℕ). Agree q ws (job_words b.job)) more same) (job_again b.job b.sound)

-- ---- without it, one does

-- cells of every kind
zeros : ℕ → List ℕ
zeros zero = []
zeros (suc n) = 0 ∷ zeros n

length_zeros : (n : ℕ) → length (zeros n) ≡ n
unfolding zeros
length_zeros zero = refl
length_zeros (suc n) = ap suc (length_zeros n)

zero_cell : (k : CellKind) → is_cell k 0 ≡ true
zero_cell Gray = refl
zero_cell Height = refl
zero_cell Flags = refl
zero_cell Return = refl

zeros_raw : (k : CellKind) (n : ℕ) → AllByRecursion (IsRaw k) (zeros n)
unfolding zeros
zeros_raw k zero = tt
zeros_raw k (suc n) = ((lit< tt, zero_cell k), zeros_raw k n)

all_both : {A : Type 0} (P : A → Type 0) (xs ys : List A) → AllByRecursion P xs → AllByRecursion P ys → AllByRecursion P (xs ++ ys)
all_both P [] ys h g = g
all_both P (x ∷ xs) ys h g = (h.0, all_both P xs ys h.1 g)

-- a front that a job's words go on from
begun : (i : ℕ) (ws front rest more : List ℕ) (j : Job) → Sound j → ws ≡ front ++ rest → length front ≡ i → job_words j ≡ front ++ more → Begins i ws
begun i ws front rest more j sound split len e = record {
  there = omega (arith, ap (λ (v : List ℕ). length v) split, length-append front rest);
  job = j;
  sound = sound;
  more = more;
  begun = e ∙ ap (λ (v : List ℕ). v ++ more) (sym (ap (take i) split ∙ take_at front rest i len));
}

-- a job of a head, raw words, a window and steps
abbrev assembled : Shape → List ℕ → Option Rectangle → List Step → Job
assembled s rs f ss = record { kind = s.kind; width = s.width; height = s.height; raws = rs; window = f; steps = ss }

abbrev pub head_word : Shape → ℕ
head_word s = item_word (Head (Ok s.kind) s.width s.height)

abbrev pub count_word : Shape → ℕ
count_word s = item_word (Cells (s.width * s.height))

abbrev pub end_words : List ℕ
end_words = item_word End ∷ []

smallest : Job
smallest = record { kind = Gray; width = 0; height = 0; raws = []; window = None; steps = [] }

at_head : (ws : List ℕ) → Begins 0 ws
unfolding smallest
at_head ws = begun 0 ws [] ws (job_words smallest) smallest (record { head = ((lit< tt, refl), lit< tt, lit< tt); count = refl; raws = tt; window = tt; steps = tt }) refl refl refl

at_count : (ws : List ℕ) (s : Shape) (m : Left) → TheHead ws s m → Begins 1 ws
unfolding job_words
at_count ws s m t =
    let zs = zeros (s.width * s.height) in
    begun 1 ws (head_word s ∷ []) m.words (count_word s ∷ (zs ++ end_words)) (assembled s zs None []) (record {
      head = t.fits;
      count = length_zeros (s.width * s.height);
      raws = zeros_raw s.kind (s.width * s.height);
      window = tt;
      steps = tt;
    }) t.front refl refl

-- raw words up to one that is refused
pub record SomeRaws (k : CellKind) (n i : ℕ) (ws : List ℕ) (f : StripFault) : Type 0 where
  pub front : List ℕ
  pub rest : List ℕ
  pub split : ws ≡ front ++ rest
  pub few : length front < n
  pub raws : AllByRecursion (IsRaw k) front
  pub cause : ((rest ≡ []) × (number f ≡ 2)) ⊎ ((w : ℕ) × (after : List ℕ) × (rest ≡ w ∷ after) × (number f ≡ 6))
  pub place : told_word f ≡ i + length front

-- a missing raw word, and a wrong one
cell_short : (k : CellKind) (i : ℕ) (f : StripFault) → cell_due k (from i []) ≡ Err f → number f ≡ 2
unfolding cell_due word_due
cell_short k i f e = sym (ap number (err_is {A = ℕ × Left} (At CutShort i) f e))

wrong_by : (b : Bool) (i w : ℕ) (m : Left) (f : StripFault) → (cond b (Ok w) (Err (At NoCell i)) >>= beside m) ≡ Err f → number f ≡ 6
wrong_by true i w m f e = absurd cc
wrong_by false i w m f e = sym (ap number (err_is {A = ℕ × Left} (At NoCell i) f e))

cell_wrong : (k : CellKind) (i w : ℕ) (ws : List ℕ) (f : StripFault) → cell_due k (from i (w ∷ ws)) ≡ Err f → number f ≡ 6
unfolding cell_due word_due
cell_wrong k i w ws f e = wrong_by (is_cell k w) i w (from (i + 1) ws) f e

pub raws_stop : (k : CellKind) (n i : ℕ) (ws : List ℕ) (f : StripFault) → AreWords ws → raws_due k n (from i ws) ≡ Err f → SomeRaws k n i ws f
unfolding raws_due
raws_stop k zero i ws f fit e = absurd cc
raws_stop k (suc n) i [] f fit e =
    let goes : ℕ × Left → Result Left StripFault = λ c. raws_due k n c.1 in
    elim (bind_err (cell_due k (from i [])) goes f e) [
      | inl h ↦ record { front = []; rest = []; split = refl; few = omega arith; raws = tt; cause = inl (refl, cell_short k i f h); place = cell_place k i [] f h ∙ (let z : i ≡ i + 0 = omega arith in z) }
      | inr h ↦ absurd (cell_none k i h.0.0 h.0.1 h.1)
    ]
raws_stop k (suc n) i (w ∷ ws) f fit e =
    let goes : ℕ × Left → Result Left StripFault = λ c. raws_due k n c.1 in
    elim (bind_err (cell_due k (from i (w ∷ ws))) goes f e) [
      | inl h ↦ record { front = []; rest = w ∷ ws; split = refl; few = omega arith; raws = tt; cause = inr (w, ws, refl, cell_wrong k i w ws f h); place = cell_place k i (w ∷ ws) f h ∙ (let z : i ≡ i + 0 = omega arith in z) }
      | inr h ↦ (
          let c = cell_takes k i w ws h.0.0 h.0.1 h.1 in
          let next : raws_due k n (from (i + 1) ws) ≡ Err f = ap (raws_due k n) c.1 ∙ h.2 in
          let t = raws_stop k n (i + 1) ws f fit.1 next in
          record {
            front = w ∷ t.front;
            rest = t.rest;
            split = ap (λ (v : List ℕ). w ∷ v) t.split;
            few = omega (arith, t.few);
            raws = ((fit.0, c.0), t.raws);
            cause = t.cause;
            place = omega (arith, t.place);
          })
    ]

at_raws : (ws : List ℕ) (s : Shape) (left1 left2 : Left) (f : StripFault) → TheHead ws s left1 → left1.words ≡ count_word s ∷ left2.words → left2.place ≡ 2 → SomeRaws s.kind (s.width * s.height) left2.place left2.words f → Begins (told_word f) ws
unfolding job_words
at_raws ws s left1 left2 f t count two r =
    let zs = zeros (s.width * s.height - length r.front) in
    let rs = r.front ++ zs in
    let front = head_word s ∷ count_word s ∷ r.front in
    begun (told_word f) ws front r.rest (zs ++ end_words) (assembled s rs None []) (record {
      head = t.fits;
      count = omega (arith, length-append r.front zs, length_zeros (s.width * s.height - length r.front), r.few);
      raws = all_both (IsRaw s.kind) r.front zs r.raws (zeros_raw s.kind (s.width * s.height - length r.front));
      window = tt;
      steps = tt;
    })
    (t.front ∙ ap (λ (v : List ℕ). head_word s ∷ v) (count ∙ ap (λ (v : List ℕ). count_word s ∷ v) r.split))
    (omega (arith, r.place))
    (ap (λ (v : List ℕ). head_word s ∷ count_word s ∷ v) (append_assoc r.front zs end_words))

-- what was passed up to the window
pub record Passed (ws : List ℕ) (s : Shape) (rs : List ℕ) (m : Left) : Type 0 where
  pub front : ws ≡ (head_word s ∷ count_word s ∷ rs) ++ m.words
  pub fits : Fits (Head (Ok s.kind) s.width s.height)
  pub count : length rs ≡ s.width * s.height
  pub raws : AllByRecursion (IsRaw s.kind) rs
  pub place : m.place ≡ 2 + length rs

-- a frame that is refused at its corner, or at its extent behind the corner c
abbrev pub Stops : ℕ → List ℕ → StripFault → Type 0
Stops i ws f = (corner_part (from i ws) ≡ Err f) ⊎ ((c : ℕ × ℕ) × (rest : List ℕ) × (ws ≡ item_word (Corner c.0 c.1) ∷ rest) × Fits (Corner c.0 c.1) × (extent_part c (from (i + 1) rest) ≡ Err f))

frame_stop : (i : ℕ) (ws : List ℕ) (f : StripFault) → frame_due (from i ws) ≡ Err f → Stops i ws f
frame_stop i ws f e =
    let goes : (ℕ × ℕ) × Left → Result (Rectangle × Left) StripFault = λ c. extent_part c.0 c.1 in
    elim (bind_err (corner_part (from i ws)) goes f (sym (frame_parts i ws) ∙ e)) [
      | inl h ↦ inl h
      | inr h ↦ inr (
          let p = part_takes (corner_of i) i ws h.0.0 h.0.1 (item_single corner_of i ws ∙ h.1) in
          let x = corner_is i p.item h.0.0 p.made in
          (h.0.0, h.0.1.words, p.front ∙ ap (λ (z : Item). item_word z ∷ h.0.1.words) x, subst Fits x p.fits, ap (λ (n : ℕ). extent_part h.0.0 (from n h.0.1.words)) (sym p.place) ∙ h.2))
    ]

-- a window that is refused; then a corner stands there
pub window_stop : (i : ℕ) (ws : List ℕ) (f : StripFault) → window_due (from i ws) ≡ Err f → Stops i ws f
unfolding window_due
window_stop i ws f e =
    let some : Rectangle × Left → Result (Option Rectangle × Left) StripFault = λ g. Ok (Some g.0, g.1) in
    let none : Option Rectangle × Left = (None, from i ws) in
    elim (chosen (begins ws) (frame_due (from i ws) >>= some) (Ok none) (Err f) e) [
      | inl p ↦ elim (bind_err (frame_due (from i ws)) some f p.1) [
        | inl h ↦ frame_stop i ws f h
        | inr h ↦ absurd (let q = h.2 in cc)
      ]
      | inr p ↦ absurd (let q = p.1 in cc)
    ]

at_window : (ws : List ℕ) (s : Shape) (rs : List ℕ) (m : Left) → Passed ws s rs m → Begins m.place ws
unfolding job_words
at_window ws s rs m p =
    begun m.place ws (head_word s ∷ count_word s ∷ rs) m.words end_words (assembled s rs None []) (record { head = p.fits; count = p.count; raws = p.raws; window = tt; steps = tt })
    p.front (omega (arith, p.place)) refl

at_extent : (ws : List ℕ) (s : Shape) (rs : List ℕ) (m : Left) (c : ℕ × ℕ) (rest : List ℕ) → Passed ws s rs m → m.words ≡ item_word (Corner c.0 c.1) ∷ rest → Fits (Corner c.0 c.1) → Begins (m.place + 1) ws
unfolding job_words
at_extent ws s rs m c rest p e fits =
    let g : Rectangle = record { left = c.0; top = c.1; size = record { width = 0; height = 0 } } in
    let cw = item_word (Corner c.0 c.1) in
    let front = (head_word s ∷ count_word s ∷ rs) ++ (cw ∷ []) in
    begun (m.place + 1) ws front rest (item_word (extent g) ∷ end_words) (assembled s rs (Some g) []) (record { head = p.fits; count = p.count; raws = p.raws; window = (fits, (lit< tt, lit< tt)); steps = tt })
    (p.front ∙ ap (λ (v : List ℕ). (head_word s ∷ count_word s ∷ rs) ++ v) e ∙ sym (append_assoc (head_word s ∷ count_word s ∷ rs) (cw ∷ []) rest))
    (omega (arith, p.place, length-append (head_word s ∷ count_word s ∷ rs) (cw ∷ [])))
    (sym (append_assoc (head_word s ∷ count_word s ∷ rs) (cw ∷ []) (item_word (extent g) ∷ end_words)))

-- steps up to a word that is refused
pub record SomeSteps (i : ℕ) (ws : List ℕ) (f : StripFault) : Type 0 where
  pub steps : List Step
  pub rest : List ℕ
  pub split : ws ≡ step_words steps ++ rest
  pub fits : AllByRecursion (λ s. Fits (step_item s)) steps
  pub cause : ((rest ≡ []) × (number f ≡ 2)) ⊎ ((w j : ℕ) × (after : List ℕ) × (rest ≡ w ∷ after) × (step_at j w ≡ Err f))
  pub place : told_word f ≡ i + length (step_words steps)

is_step_at : (i w : ℕ) (b : Bool) → step_at i w ≡ Ok b → IsStep w b
is_step_at i w b h =
    let x = bind_ok (said i (item_of w)) (is_step i) b h in
    step_is i w x.0 b (said_is i (item_of w) x.0 x.1) x.2

steps_stop_by : (i w : ℕ) (ws : List ℕ) (f : StripFault) (b : Bool) → IsStep w b → cond b (steps_from (i + 1) ws >>= one_more) (Ok (0, from (i + 1) ws)) ≡ Err f → (steps_from (i + 1) ws ≡ Err f → SomeSteps (i + 1) ws f) → SomeSteps i (w ∷ ws) f
steps_stop_by i w ws f true s e more =
    let t = more (one_more_err (steps_from (i + 1) ws) f e) in
    record {
      steps = step_of w ∷ t.steps;
      rest = t.rest;
      split = ap (λ (x : ℕ). x ∷ ws) (sym s.0) ∙ ap (λ (v : List ℕ). item_word (step_item (step_of w)) ∷ v) t.split;
      fits = (s.1, t.fits);
      cause = t.cause;
      place = omega (arith, t.place);
    }
steps_stop_by i w ws f false s e more = absurd cc

pub steps_stop : (i : ℕ) (ws : List ℕ) (f : StripFault) → steps_from i ws ≡ Err f → SomeSteps i ws f
steps_stop i [] f e =
    let here : At CutShort i ≡ f = err_is {A = ℕ × Left} (At CutShort i) f (sym (steps_none i) ∙ e) in
    record { steps = []; rest = []; split = refl; fits = tt; cause = inl (refl, sym (ap number here)); place = sym (ap told_word here) ∙ (let z : i ≡ i + 0 = omega arith in z) }
steps_stop i (w ∷ ws) f e =
    let goes : Bool → Result (ℕ × Left) StripFault = λ b. cond b (steps_from (i + 1) ws >>= one_more) (Ok (0, from (i + 1) ws)) in
    elim (bind_err (step_at i w) goes f (sym (steps_first i w ws) ∙ e)) [
      | inl p ↦ record { steps = []; rest = w ∷ ws; split = refl; fits = tt; cause = inr (w, i, ws, refl, p); place = step_at_place i w f p ∙ (let z : i ≡ i + 0 = omega arith in z) }
      | inr p ↦ steps_stop_by i w ws f p.0 (is_step_at i w p.0 p.1) p.2 (λ h. steps_stop (i + 1) ws f h)
    ]

-- a job's steps up to the refused word
at_steps : (ws : List ℕ) (s : Shape) (rs : List ℕ) (m : Left) (g : Option Rectangle) (l : Left) (f : StripFault) → Passed ws s rs m → TheWindow m.place m.words g l → SomeSteps l.place l.words f → Begins (told_word f) ws
unfolding job_words
at_steps ws s rs m g l f p t k =
    let start = head_word s ∷ count_word s ∷ rs in
    let middle = window_words g ++ step_words k.steps in
    let e1 : m.words ≡ middle ++ k.rest = t.front ∙ ap (λ (v : List ℕ). window_words g ++ v) k.split ∙ sym (append_assoc (window_words g) (step_words k.steps) k.rest) in
    let e2 : window_words g ++ (step_words k.steps ++ end_words) ≡ middle ++ end_words = sym (append_assoc (window_words g) (step_words k.steps) end_words) in
    begun (told_word f) ws (start ++ middle) k.rest end_words (assembled s rs g k.steps) (record { head = p.fits; count = p.count; raws = p.raws; window = t.fits; steps = k.fits })
    (p.front ∙ ap (λ (v : List ℕ). start ++ v) e1 ∙ sym (append_assoc start middle k.rest))
    (omega (arith, p.place, t.place, k.place, length-append start middle, length-append (window_words g) (step_words k.steps)))
    (ap (λ (v : List ℕ). start ++ v) e2 ∙ sym (append_assoc start middle end_words))

-- a whole job, behind which something follows
pub whole_job : (ws : List ℕ) (s : Shape) (rs : List ℕ) (m : Left) (g : Option Rectangle) (l : Left) (n : ℕ) (x : Left) → Passed ws s rs m → TheWindow m.place m.words g l → TheSteps l.place l.words n x
    → (j : Job) × Sound j × (ws ≡ job_words j ++ x.words) × (length (job_words j) ≡ x.place)
unfolding job_words
whole_job ws s rs m g l n x p t k =
    let ss = map step_of (take n l.words) in
    let start = head_word s ∷ count_word s ∷ rs in
    let tail = step_words ss ++ end_words in
    let e0 : l.words ≡ tail ++ x.words = k.front ∙ sym (append_assoc (step_words ss) end_words x.words) in
    let e1 : m.words ≡ (window_words g ++ tail) ++ x.words = t.front ∙ ap (λ (v : List ℕ). window_words g ++ v) e0 ∙ sym (append_assoc (window_words g) tail x.words) in (
      assembled s rs g ss,
      record { head = p.fits; count = p.count; raws = p.raws; window = t.fits; steps = k.fits },
      p.front ∙ ap (λ (v : List ℕ). start ++ v) e1 ∙ sym (append_assoc start (window_words g ++ tail) x.words),
      omega (arith, p.place, t.place, k.place, length-append start (window_words g ++ tail), length-append (window_words g) tail, length-append (step_words ss) end_words),
    )

at_end : (ws : List ℕ) (x : Left) → (j : Job) × Sound j × (ws ≡ job_words j ++ x.words) × (length (job_words j) ≡ x.place) → Begins x.place ws
at_end ws x t = begun x.place ws (job_words t.0) x.words [] t.0 t.1 t.2 t.3 (sym (append-nil (job_words t.0)))

-- the head, the count and the raw words were passed
pub passed_raws : (ws : List ℕ) (s : Shape × Left) (c : ℕ × Left) (r : Left) → AreWords ws → shape_due (from 0 ws) ≡ Ok s → count_due (s.0.width * s.0.height) s.1 ≡ Ok c → raws_due s.0.kind c.0 c.1 ≡ Ok r → Passed ws s.0 (take c.0 c.1.words) r
passed_raws ws s c r fit hs hc hr =
    let t = shape_takes ws s.0 s.1 hs in
    let u = count_takes (s.0.width * s.0.height) s.1.place s.1.words c.0 c.1 hc in
    let fit1 : AreWords s.1.words = (subst AreWords t.front fit).1 in
    let fit2 : AreWords c.1.words = (subst AreWords u.front fit1).1 in
    let v = raws_takes s.0.kind c.0 c.1.place c.1.words r fit2 hr in
    record {
      front = t.front ∙ ap (λ (v : List ℕ). head_word s.0 ∷ v) (u.front ∙ ap (λ (v : List ℕ). count_word s.0 ∷ v) v.front);
      fits = t.fits;
      count = v.count ∙ sym u.count;
      raws = v.raws;
      place = omega (arith, t.place, u.place, v.place, v.count);
    }

one_begins : (n : ℕ) (ws : List ℕ) (f : StripFault) → AreWords ws → job_from n ws ≡ Err f → Begins (told_word f) ws
one_begins n ws f fit e =
    let at : (i : ℕ) → told_word f ≡ i → Begins i ws → Begins (told_word f) ws = λ i h b. subst (λ (q : ℕ). Begins q ws) (sym h) b in
    stopped {P = Begins (told_word f) ws} n ws f e
    (λ h. at 0 (shape_place 0 ws f h) (at_head ws))
    (λ s hs h. (
    let t = shape_takes ws s.0 s.1 hs in
    at 1 (count_place (s.0.width * s.0.height) s.1.place s.1.words f h ∙ t.place) (at_count ws s.0 s.1 t)))
    (λ s c hs hc h. (
    let t = shape_takes ws s.0 s.1 hs in
    let u = count_takes (s.0.width * s.0.height) s.1.place s.1.words c.0 c.1 hc in
    let fit1 : AreWords s.1.words = (subst AreWords t.front fit).1 in
    let fit2 : AreWords c.1.words = (subst AreWords u.front fit1).1 in
    let stop = raws_stop s.0.kind c.0 c.1.place c.1.words f fit2 h in
    at_raws ws s.0 s.1 c.1 f t u.front (omega (arith, u.place, t.place)) (subst (λ (q : ℕ). SomeRaws s.0.kind q c.1.place c.1.words f) (sym u.count) stop)))
    (λ s c r hs hc hr h. (
    let p = passed_raws ws s c r fit hs hc hr in
    elim (window_stop r.place r.words f h) [
      | inl here ↦ at r.place (corner_place r.place r.words f here) (at_window ws s.0 (take c.0 c.1.words) r p)
      | inr there ↦ at (r.place + 1) (extent_place there.0 (r.place + 1) there.1 f there.4) (at_extent ws s.0 (take c.0 c.1.words) r there.0 there.1 p there.2 there.3)
    ]))
    (λ s c r g hs hc hr hg h. (
    let p = passed_raws ws s c r fit hs hc hr in
    at_steps ws s.0 (take c.0 c.1.words) r g.0 g.1 f p (window_takes r.place r.words g.0 g.1 hg) (steps_stop g.1.place g.1.words f h)))
    (λ s c r g k hs hc hr hg hk h. (
    let p = passed_raws ws s c r fit hs hc hr in
    at k.1.place (ended_at n k.1.place k.1.words f h) (at_end ws k.1 (whole_job ws s.0 (take c.0 c.1.words) r g.0 g.1 k.0 k.1 p (window_takes r.place r.words g.0 g.1 hg) (steps_take g.1.place g.1.words k.0 k.1 hk)))))

-- a strip that is short enough is refused for its words
pub refused_words : (bs : List ℕ) (f : StripFault) → length bs ≤ 65536 → reading bs ≡ Err f → job_from (over bs) (words bs) ≡ Err f
unfolding reading
refused_words bs f short e =
    let read : Result Job StripFault = job_from (over bs) (words bs) in
    ap (λ (b : Bool). cond b (Err TooLong) read) (sym (le-ltb 65536 (length bs) short)) ∙ e

first_word : (bs : List ℕ) (f : StripFault) → AreBytes bs → reading bs ≡ Err f → TellsFirst bs f
first_word bs f h e short =
    let r = refused_words bs f short e in
    (one_begins (over bs) (words bs) f (words_fit bs h) r, none_begins (over bs) (words bs) f r)

pub tells_first : (bs : List ℕ) (r : Result JobStrip StripFault) → AreBytes bs → Reads (reading bs) r → IfErr r (λ f. TellsFirst bs f)
tells_first bs (Ok s) h e = tt
tells_first bs (Err f) h e = first_word bs f h e
