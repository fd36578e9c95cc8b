-- The number of a refusal is that of what stands at its word.
use Rattle.std.proofs.Common.{◌≡◌, ◌<◌, ℕ, ◌+◌, ◌*◌, ◌^◌, ◌≤◌, Bool, true, false, cond, List, [], ◌∷◌, ◌++◌, length, take, drop, Option, Some, None, Result, Ok, Err, ◌⊎◌, inl, inr, refl, sym, ap, subst, ◌∙◌, arith, append_assoc, length-append, ltb}
use Rattle.std.specs.Prelude.{◌==◌, ◌&&◌, IfErr, nat_le, nat_lt}
use Rattle.std.specs.List.{slice_get}
use Rattle.std.proofs.lemmas.List.{take_at, take-append-drop}
use Rattle.std.proofs.lemmas.Bool.{le-ltb, lt-ltb, ltb-true, ltb-false, le-leb, ne_eqb}
use Rattle.std.proofs.Math.Bool.{and-false}
use Rattle.strips.specs.Words.{words, over}
use Rattle.strips.specs.Items.{item_of, item_word, Fits}
use Rattle.strips.specs.Faults.{number, told_word}
use Rattle.strips.specs.Jobs.{Job, window_words, step_words, Sound, job_words}
use Rattle.strips.specs.Reading.{Left, from, ◌>>=◌, said, shape_by, shape_of, count_of, raws_due, corner_of, extent_of, is_step, ended, job_from, reading}
use Rattle.strips.specs.Views.{Reads}
use Rattle.strips.specs.Grounds.{cells_of, announced, is_raw, in_place, by_item, by_word, Whole, Numbered}
use Rattle.strips.specs.Laws.{TellsGround}
use Rattle.strips.specs.declared.kind.CellKind.{CellKind}
use Rattle.strips.specs.declared.kind.NoSuchKind.{NoSuchKind}
use Rattle.strips.specs.declared.item.Item.{Item}
use Rattle.strips.specs.declared.item.Item.TheVariants.{Head, Cells, Corner, Extent, Point, Call, End}
use Rattle.strips.specs.declared.parts.Shape.{Shape}
use Rattle.sheets.specs.declared.window.Rectangle.{Rectangle}
use Rattle.strips.specs.declared.job.JobStrip.{JobStrip}
use Rattle.strips.specs.declared.fault.StripFault.{StripFault}
use Rattle.strips.specs.declared.fault.StripFault.TheVariants.{TooLong, At}
use Rattle.strips.specs.declared.fault.Ground.TheVariants.{NoWord, OutOfOrder, NoKind, WrongCount}
use Rattle.strips.proofs.Items.{chosen, item_again}
use Rattle.strips.proofs.Loops.{step_at}
use Rattle.strips.proofs.Taken.{AreWords, TheWindow, shape_takes, count_takes, window_takes, steps_take}
use Rattle.strips.proofs.Spelled.{AreBytes, words_fit}
use Rattle.strips.proofs.Again.{shape_again, count_again, raws_again, window_again, steps_again, begins_steps, count_below}
use Rattle.strips.proofs.Steady.{corner_refused, extent_refused, step_refused, err_is, single, of_item, single_cause, shape_single, count_single, shape_place, count_place, corner_place, extent_place, extent_err, step_at_place, parts}
use Rattle.strips.proofs.Stops.{stopped, parts_1, parts_2, parts_3, parts_4, parts_5}
use Rattle.strips.proofs.Firsts.{head_word, count_word, end_words, raws_stop, Passed, passed_raws, Stops, window_stop, SomeSteps, steps_stop, whole_job, ended_at, refused_words}

-- ---- what stands at a word

get_behind : (front rest : List ℕ) (i : ℕ) → length front ≡ i → slice_get (front ++ rest) i ≡ slice_get rest 0
get_behind [] rest i e = ap (slice_get rest) (sym e)
get_behind (x ∷ front) rest i e = ap (slice_get (x ∷ (front ++ rest))) (sym e) ∙ get_behind front rest (length front) refl

-- the number by the word behind a front is the number by the word that is told
by_front : (ws front rest : List ℕ) (i : ℕ) (f : StripFault) → ws ≡ front ++ rest → length front ≡ i → told_word f ≡ i → number f ≡ by_word ws i (slice_get rest 0) → number f ≡ by_word ws (told_word f) (slice_get ws (told_word f))
by_front ws front rest i f split len told h =
    let g : slice_get ws i ≡ slice_get rest 0 = ap (λ (v : List ℕ). slice_get v i) split ∙ get_behind front rest i len in
    subst (λ (q : ℕ). number f ≡ by_word ws q (slice_get ws q)) (sym told) (h ∙ ap (by_word ws i) (sym g))

by_none : (ws rest : List ℕ) (i : ℕ) (f : StripFault) → rest ≡ [] → number f ≡ 2 → number f ≡ by_word ws i (slice_get rest 0)
by_none ws rest i f e h = h ∙ sym (ap (λ (v : List ℕ). by_word ws i (slice_get v 0)) e)

by_raw : (ws rest after : List ℕ) (i w : ℕ) (f : StripFault) → rest ≡ w ∷ after → is_raw ws i ≡ true → number f ≡ 6 → number f ≡ by_word ws i (slice_get rest 0)
by_raw ws rest after i w f e raw h = h ∙ sym (ap (λ (v : List ℕ). by_word ws i (slice_get v 0)) e ∙ ap (λ (b : Bool). cond b 6 (by_item i (item_of w))) raw)

by_said : (ws rest after : List ℕ) (i w : ℕ) (f : StripFault) → rest ≡ w ∷ after → is_raw ws i ≡ false → number f ≡ by_item i (item_of w) → number f ≡ by_word ws i (slice_get rest 0)
by_said ws rest after i w f e raw h = h ∙ sym (ap (λ (v : List ℕ). by_word ws i (slice_get v 0)) e ∙ ap (λ (b : Bool). cond b 6 (by_item i (item_of w))) raw)

-- which words are raw
raw_late : (ws : List ℕ) (n i : ℕ) → announced ws ≡ n → 2 + n ≤ i → is_raw ws i ≡ false
raw_late ws n i e le =
    ap (λ (k : ℕ). nat_le 2 i && nat_lt i (2 + k)) e
    ∙ ap (λ (b : Bool). nat_le 2 i && b) (le-ltb i (2 + n) le)
    ∙ and-false (nat_le 2 i)

raw_within : (ws : List ℕ) (n i : ℕ) → announced ws ≡ n → 2 ≤ i → i < 2 + n → is_raw ws i ≡ true
raw_within ws n i e le lt =
    ap (λ (k : ℕ). nat_le 2 i && nat_lt i (2 + k)) e
    ∙ ap (λ (b : Bool). b && nat_lt i (2 + n)) (le-leb 2 i le)
    ∙ lt-ltb i (2 + n) lt

announced_head : (ws : List ℕ) (s : Shape) (rest : List ℕ) → ws ≡ head_word s ∷ rest → Fits (Head (Ok s.kind) s.width s.height) → announced ws ≡ s.width * s.height
announced_head ws s rest e fits = ap announced e ∙ ap cells_of (item_again (Head (Ok s.kind) s.width s.height) fits)

-- ---- the number by what a word says

silent : {A : Type 0} (i : ℕ) (f : StripFault) → ◌≡◌ {A = Result A StripFault} (Err (At NoWord i)) (Err f) → number f ≡ 3
silent {A} i f e = sym (ap number (err_is {A = A} (At NoWord i) f e))

misplaced : {A : Type 0} (i : ℕ) (f : StripFault) → ◌≡◌ {A = Result A StripFault} (Err (At OutOfOrder i)) (Err f) → number f ≡ 4
misplaced {A} i f e = sym (ap number (err_is {A = A} (At OutOfOrder i) f e))

no_kind_number : (k : Result CellKind NoSuchKind) (w h : ℕ) (f : StripFault) → shape_by 0 k w h ≡ Err f → number f ≡ 5
no_kind_number (Ok k) w h f e = absurd cc
no_kind_number (Err n) w h f e = sym (ap number (err_is {A = Shape} (At NoKind 0) f e))

shape_number : (o : Option Item) (f : StripFault) → (said 0 o >>= shape_of 0) ≡ Err f → number f ≡ by_item 0 o
shape_number None f e = silent {A = Shape} 0 f e
shape_number (Some (Head k w h)) f e = no_kind_number k w h f e
shape_number (Some (Cells n)) f e = misplaced {A = Shape} 0 f e
shape_number (Some (Corner c r)) f e = misplaced {A = Shape} 0 f e
shape_number (Some (Extent w h)) f e = misplaced {A = Shape} 0 f e
shape_number (Some (Point p)) f e = misplaced {A = Shape} 0 f e
shape_number (Some (Call q)) f e = misplaced {A = Shape} 0 f e
shape_number (Some End) f e = misplaced {A = Shape} 0 f e

wrong_count : (b : Bool) (n i : ℕ) (f : StripFault) → ◌≡◌ {A = Result ℕ StripFault} (cond b (Ok n) (Err (At WrongCount i))) (Err f) → number f ≡ 5
wrong_count true n i f e = absurd cc
wrong_count false n i f e = sym (ap number (err_is {A = ℕ} (At WrongCount i) f e))

count_number : (n i : ℕ) → i ≡ 1 → (o : Option Item) (f : StripFault) → (said i o >>= count_of n i) ≡ Err f → number f ≡ by_item i o
count_number n i one None f e = silent {A = ℕ} i f e
count_number n i one (Some (Head k w h)) f e = misplaced {A = ℕ} i f e ∙ sym (ap (λ (j : ℕ). cond (j == 0) 5 4) one)
count_number n i one (Some (Cells m)) f e = wrong_count (m == n) n i f e ∙ sym (ap (λ (j : ℕ). cond (j == 1) 5 4) one)
count_number n i one (Some (Corner c r)) f e = misplaced {A = ℕ} i f e
count_number n i one (Some (Extent w h)) f e = misplaced {A = ℕ} i f e
count_number n i one (Some (Point p)) f e = misplaced {A = ℕ} i f e
count_number n i one (Some (Call q)) f e = misplaced {A = ℕ} i f e
count_number n i one (Some End) f e = misplaced {A = ℕ} i f e

-- behind the raw words nothing is a head or a cells word that is due
late_not : (i n : ℕ) → n < i → (i == n) ≡ false
late_not i n lt = ne_eqb i n (λ e. absurd (omega arith))

late : (i : ℕ) (x : Item) → 2 ≤ i → in_place i x ≡ false
late i (Head n w h) le = late_not i 0 (omega arith)
late i (Cells n) le = late_not i 1 (omega arith)
late i (Corner c r) le = refl
late i (Extent w h) le = refl
late i (Point p) le = refl
late i (Call q) le = refl
late i End le = refl

late_number : {A : Type 0} (h : ℕ → Item → Result A StripFault) → ((i : ℕ) (x : Item) (f : StripFault) → h i x ≡ Err f → number f ≡ 4) → (i : ℕ) → 2 ≤ i → (o : Option Item) (f : StripFault) → (said i o >>= h i) ≡ Err f → number f ≡ by_item i o
late_number h order i le (Some x) f e = order i x f e ∙ sym (ap (λ (b : Bool). cond b 5 4) (late i x le))
late_number {A} h order i le None f e = silent {A = A} i f e

corner_order : (i : ℕ) (x : Item) (f : StripFault) → corner_of i x ≡ Err f → number f ≡ 4
corner_order i x f e = sym (ap number (corner_refused i x f e))

extent_order : (i : ℕ) (x : Item) (f : StripFault) → extent_of i x ≡ Err f → number f ≡ 4
extent_order i x f e = sym (ap number (extent_refused i x f e))

step_order : (i : ℕ) (x : Item) (f : StripFault) → is_step i x ≡ Err f → number f ≡ 4
step_order i x f e = sym (ap number (step_refused i x f e))

-- a part of one word behind a front, where no raw word stands
part_number : {A : Type 0} (h : ℕ → Item → Result A StripFault) (ws rest : List ℕ) (i : ℕ) (f : StripFault) → is_raw ws i ≡ false → ((o : Option Item) → (said i o >>= h i) ≡ Err f → number f ≡ by_item i o)
    → single (of_item h) (from i rest) ≡ Err f → number f ≡ by_word ws i (slice_get rest 0)
part_number h ws rest i f raw by e =
    elim (single_cause (of_item h) i rest f e) [
      | inl p ↦ by_none ws rest i f p.0 (sym (ap number p.1))
      | inr p ↦ by_said ws rest p.1 i p.0 f p.2 raw (by (item_of p.0) p.3)
    ]

-- ---- the parts

-- the number of a refusal is that of its word, and then it is one of the parts; or it is of what follows a whole strip
abbrev ByWord : List ℕ → StripFault → Type 0
ByWord ws f = (parts (from 0 ws) ≡ Err f) × (number f ≡ by_word ws (told_word f) (slice_get ws (told_word f)))

abbrev Either : List ℕ → StripFault → Type 0
Either ws f = (Whole (take (told_word f) ws) × (number f ≡ 4)) ⊎ ByWord ws f

-- the corner, or the extent
window_number : (ws : List ℕ) (s : Shape) (rs : List ℕ) (m : Left) (f : StripFault) → Passed ws s rs m → announced ws ≡ s.width * s.height → Stops m.place m.words f → number f ≡ by_word ws (told_word f) (slice_get ws (told_word f))
window_number ws s rs m f p a (inl h) =
    let far : 2 ≤ m.place = omega (arith, p.place) in
    let raw : is_raw ws m.place ≡ false = raw_late ws (s.width * s.height) m.place a (omega (arith, p.place, p.count)) in
    by_front ws (head_word s ∷ count_word s ∷ rs) m.words m.place f p.front (omega (arith, p.place)) (corner_place m.place m.words f h)
    (part_number corner_of ws m.words m.place f raw (λ o e. late_number corner_of corner_order m.place far o f e) h)
window_number ws s rs m f p a (inr h) =
    let i = m.place + 1 in
    let far : 2 ≤ m.place + 1 = omega (arith, p.place) in
    let raw : is_raw ws (m.place + 1) ≡ false = raw_late ws (s.width * s.height) (m.place + 1) a (omega (arith, p.place, p.count)) in
    let cw = item_word (Corner h.0.0 h.0.1) in
    let start = head_word s ∷ count_word s ∷ rs in
    by_front ws (start ++ (cw ∷ [])) h.1 (m.place + 1) f
    (p.front ∙ ap (λ (v : List ℕ). start ++ v) h.2 ∙ sym (append_assoc start (cw ∷ []) h.1))
    (omega (arith, p.place, length-append start (cw ∷ [])))
    (extent_place h.0 (m.place + 1) h.1 f h.4)
    (part_number extent_of ws h.1 (m.place + 1) f raw (λ o e. late_number extent_of extent_order (m.place + 1) far o f e) (extent_err (single (of_item extent_of) (from (m.place + 1) h.1)) h.0 f h.4))

-- a word among the steps
steps_number : (ws : List ℕ) (s : Shape) (rs : List ℕ) (m : Left) (g : Option Rectangle) (l : Left) (f : StripFault) → Passed ws s rs m → announced ws ≡ s.width * s.height → TheWindow m.place m.words g l → SomeSteps l.place l.words f
    → number f ≡ by_word ws (told_word f) (slice_get ws (told_word f))
steps_number ws s rs m g l f p a t k =
    let start = head_word s ∷ count_word s ∷ rs in
    let middle = window_words g ++ step_words k.steps in
    let e1 : m.words ≡ middle ++ k.rest = t.front ∙ ap (λ (v : List ℕ). window_words g ++ v) k.split ∙ sym (append_assoc (window_words g) (step_words k.steps) k.rest) in
    let far : 2 ≤ told_word f = omega (arith, p.place, t.place, k.place) in
    let raw : is_raw ws (told_word f) ≡ false = raw_late ws (s.width * s.height) (told_word f) a (omega (arith, p.place, p.count, t.place, k.place)) in
    by_front ws (start ++ middle) k.rest (told_word f) f
    (p.front ∙ ap (λ (v : List ℕ). start ++ v) e1 ∙ sym (append_assoc start middle k.rest))
    (omega (arith, p.place, t.place, k.place, length-append start middle, length-append (window_words g) (step_words k.steps)))
    refl
    (elim k.cause [
      | inl h ↦ by_none ws k.rest (told_word f) f h.0 h.1
      | inr h ↦ (
          let told : h.1 ≡ told_word f = sym (step_at_place h.1 h.0 f h.4) in
          by_said ws k.rest h.2 (told_word f) h.0 f h.3 raw (late_number is_step step_order (told_word f) far (item_of h.0) f (subst (λ (q : ℕ). step_at q h.0 ≡ Err f) told h.4)))
    ])

-- the front of a strip that is a whole job
whole_front : (ws : List ℕ) (x : Left) (f : StripFault) → told_word f ≡ x.place → (j : Job) × Sound j × (ws ≡ job_words j ++ x.words) × (length (job_words j) ≡ x.place) → Whole (take (told_word f) ws)
whole_front ws x f told t = (t.0, t.1, sym (ap (take (told_word f)) t.2 ∙ take_at (job_words t.0) x.words (told_word f) (t.3 ∙ sym told)))

end_number : (n i : ℕ) (ws : List ℕ) (f : StripFault) → ended n (from i ws) ≡ Err f → number f ≡ 4
end_number n i [] f e =
    elim (chosen (n == 0) (Ok (from i [])) (Err (At OutOfOrder i)) (Err f) e) [
      | inl p ↦ absurd (let q = p.1 in cc)
      | inr p ↦ misplaced {A = Left} i f p.1
    ]
end_number n i (w ∷ ws) f e = misplaced {A = Left} i f e

numbered : (n : ℕ) (ws : List ℕ) (f : StripFault) → AreWords ws → job_from n ws ≡ Err f → Either ws f
numbered n ws f fit e =
    stopped {P = Either ws f} n ws f e
    (λ h. inr (
      parts_1 ws (Err f) h,
      by_front ws [] ws 0 f refl refl (shape_place 0 ws f h)
          (part_number shape_of ws ws 0 f refl (λ o k. shape_number o f k) (sym (shape_single 0 ws) ∙ h)),
    ))
    (λ s hs h. (
    let t = shape_takes ws s.0 s.1 hs in
    let count = s.0.width * s.0.height in
    inr (
      parts_2 ws s (Err f) hs h,
      by_front ws (head_word s.0 ∷ []) s.1.words 1 f t.front refl (count_place count s.1.place s.1.words f h ∙ t.place)
          (part_number (count_of count) ws s.1.words 1 f refl (λ o k. count_number count 1 refl o f k) (ap (λ (q : ℕ). single (of_item (count_of count)) (from q s.1.words)) (sym t.place) ∙ sym (count_single count s.1.place s.1.words) ∙ h)),
    )))
    (λ s c hs hc h. (
    let t = shape_takes ws s.0 s.1 hs in
    let u = count_takes (s.0.width * s.0.height) s.1.place s.1.words c.0 c.1 hc in
    let fit1 : AreWords s.1.words = (subst AreWords t.front fit).1 in
    let fit2 : AreWords c.1.words = (subst AreWords u.front fit1).1 in
    let r = raws_stop s.0.kind c.0 c.1.place c.1.words f fit2 h in
    let a = announced_head ws s.0 s.1.words t.front t.fits in
    let raw : is_raw ws (told_word f) ≡ true = raw_within ws (s.0.width * s.0.height) (told_word f) a (omega (arith, r.place, u.place, t.place)) (omega (arith, r.place, r.few, u.place, u.count, t.place)) in
    inr (
      parts_3 ws s c (Err f) hs hc h,
      by_front ws (head_word s.0 ∷ count_word s.0 ∷ r.front) r.rest (told_word f) f
          (t.front ∙ ap (λ (v : List ℕ). head_word s.0 ∷ v) (u.front ∙ ap (λ (v : List ℕ). count_word s.0 ∷ v) r.split))
          (omega (arith, r.place, u.place, t.place))
          refl
          (elim r.cause [
            | inl k ↦ by_none ws r.rest (told_word f) f k.0 k.1
            | inr k ↦ by_raw ws r.rest k.1 (told_word f) k.0 f k.2 raw k.3
          ]),
    )))
    (λ s c r hs hc hr h. (
    let p = passed_raws ws s c r fit hs hc hr in
    let t = shape_takes ws s.0 s.1 hs in
    inr (parts_4 ws s c r (Err f) hs hc hr h, window_number ws s.0 (take c.0 c.1.words) r f p (announced_head ws s.0 s.1.words t.front t.fits) (window_stop r.place r.words f h))))
    (λ s c r g hs hc hr hg h. (
    let p = passed_raws ws s c r fit hs hc hr in
    let t = shape_takes ws s.0 s.1 hs in
    inr (parts_5 ws s c r g (Err f) hs hc hr hg h, steps_number ws s.0 (take c.0 c.1.words) r g.0 g.1 f p (announced_head ws s.0 s.1.words t.front t.fits) (window_takes r.place r.words g.0 g.1 hg) (steps_stop g.1.place g.1.words f h))))
    (λ s c r g k hs hc hr hg hk h. (
    let p = passed_raws ws s c r fit hs hc hr in
    let w = whole_job ws s.0 (take c.0 c.1.words) r g.0 g.1 k.0 k.1 p (window_takes r.place r.words g.0 g.1 hg) (steps_take g.1.place g.1.words k.0 k.1 hk) in
    inl (whole_front ws k.1 f (ended_at n k.1.place k.1.words f h) w, end_number n k.1.place k.1.words f h)))

-- ---- a whole strip

-- the parts of a whole strip are passed, whatever follows
parts_again : (j : Job) (us : List ℕ) → Sound j → (m : Left) × (parts (from 0 (job_words j ++ us)) ≡ Ok (tt, m))
unfolding job_words
parts_again j us t =
    let n = j.width * j.height in
    let s : Shape = record { kind = j.kind; width = j.width; height = j.height } in
    let ws4 = step_words j.steps ++ item_word End ∷ us in
    let ws3 = window_words j.window ++ ws4 in
    let ws2 = j.raws ++ ws3 in
    let ws1 = item_word (Cells n) ∷ ws2 in
    let ws = item_word (Head (Ok j.kind) j.width j.height) ∷ ws1 in
    let p3 = 2 + length j.raws in
    let p4 = p3 + length (window_words j.window) in
    let p5 = p4 + length j.steps + 1 in
    let a = append_assoc (step_words j.steps) end_words us in
    let b = append_assoc (window_words j.window) (step_words j.steps ++ end_words) us ∙ ap (λ (v : List ℕ). window_words j.window ++ v) a in
    let c = append_assoc j.raws (window_words j.window ++ (step_words j.steps ++ end_words)) us ∙ ap (λ (v : List ℕ). j.raws ++ v) b in
    let same : job_words j ++ us ≡ ws = ap (λ (v : List ℕ). item_word (Head (Ok j.kind) j.width j.height) ∷ item_word (Cells n) ∷ v) c in
    let few : n < 2 ^ 28 = count_below j.width j.height t.head.1 t.head.2 in
    let raws : raws_due j.kind n (from 2 ws2) ≡ Ok (from p3 ws3) = ap (λ (k : ℕ). raws_due j.kind k (from 2 ws2)) (sym t.count) ∙ raws_again j.kind j.raws ws3 2 p3 t.raws refl in
    let passed = parts_5 ws (s, from 1 ws1) (n, from 2 ws2) (from p3 ws3) (j.window, from p4 ws4) (Ok (length j.steps, from p5 us))
    (shape_again s ws1 t.head) (count_again n 1 ws2 few) raws (window_again j.window ws4 p3 p4 t.window (begins_steps j.steps us t.steps) refl) (steps_again j.steps us p4 p5 t.steps refl) in
    (from p5 us, ap (λ (v : List ℕ). parts (from 0 v)) same ∙ passed)

not_whole : (ws : List ℕ) (i : ℕ) (f : StripFault) → parts (from 0 ws) ≡ Err f → Whole (take i ws) → ⊥
not_whole ws i f e w =
    let split : job_words w.0 ++ drop i ws ≡ ws = ap (λ (v : List ℕ). v ++ drop i ws) w.2 ∙ take-append-drop i ws in
    let p = parts_again w.0 (drop i ws) w.1 in
    let yes : parts (from 0 ws) ≡ Ok (tt, p.0) = sym (ap (λ (v : List ℕ). parts (from 0 v)) split) ∙ p.1 in
    let no = e in
    cc

-- ---- the law

is_numbered : (n : ℕ) (ws : List ℕ) (f : StripFault) → AreWords ws → job_from n ws ≡ Err f → Numbered ws f
is_numbered n ws f fit e =
    elim (numbered n ws f fit e) [
      | inl h ↦ inl h
      | inr h ↦ inr (λ w. not_whole ws (told_word f) f h.0 w, h.1)
    ]

four_or_five : (b : Bool) → ◌≡◌ {A = ℕ} (cond b 5 4) 1 → ⊥
four_or_five true e = absurd (omega (arith, e))
four_or_five false e = absurd (omega (arith, e))

six_or : (b : Bool) (n : ℕ) → (n ≡ 1 → ⊥) → ◌≡◌ {A = ℕ} (cond b 6 n) 1 → ⊥
six_or true n h e = absurd (omega (arith, e))
six_or false n h e = h e

number_long : (r : Result Job StripFault) (b : Bool) (f : StripFault) → b ≡ true → cond b (Err TooLong) r ≡ Err f → number f ≡ 1
number_long r true f h e = sym (ap number (err_is {A = Job} TooLong f e))
number_long r false f h e = absurd cc

-- no number by a word is 1
item_not_1 : (i : ℕ) (o : Option Item) → by_item i o ≡ 1 → ⊥
item_not_1 i None e = absurd (omega (arith, e))
item_not_1 i (Some x) e = four_or_five (in_place i x) e

word_not_1 : (ws : List ℕ) (i : ℕ) (o : Option ℕ) → by_word ws i o ≡ 1 → ⊥
word_not_1 ws i None e = absurd (omega (arith, e))
word_not_1 ws i (Some w) e = six_or (is_raw ws i) (by_item i (item_of w)) (item_not_1 i (item_of w)) e

numbered_not_1 : (ws : List ℕ) (f : StripFault) → Numbered ws f → number f ≡ 1 → ⊥
numbered_not_1 ws f (inl h) e = absurd (omega (arith, h.1, e))
numbered_not_1 ws f (inr h) e = word_not_1 ws (told_word f) (slice_get ws (told_word f)) (sym h.1 ∙ e)

right_number : (bs : List ℕ) (f : StripFault) → AreBytes bs → reading bs ≡ Err f → TellsGround bs f
unfolding reading
right_number bs f h e =
    let all = λ (short : length bs ≤ 65536). is_numbered (over bs) (words bs) f (words_fit bs h) (refused_words bs f short e) in
    let long = λ (one : number f ≡ 1). (elim (chosen (ltb 65536 (length bs)) (Err TooLong) (job_from (over bs) (words bs)) (Err f) e) as (λ _. 65536 < length bs) [
      | inl p ↦ ltb-true 65536 (length bs) p.0
      | inr p ↦ absurd (numbered_not_1 (words bs) f (all (ltb-false 65536 (length bs) p.0)) one)
    ]) in
    let told = λ (lt : 65536 < length bs). number_long (job_from (over bs) (words bs)) (ltb 65536 (length bs)) f (lt-ltb 65536 (length bs) lt) e in
    ((long, told), all)

pub tells_ground : (bs : List ℕ) (r : Result JobStrip StripFault) → AreBytes bs → Reads (reading bs) r → IfErr r (λ f. TellsGround bs f)
tells_ground bs (Ok s) h e = tt
tells_ground bs (Err f) h e = right_number bs f h e
