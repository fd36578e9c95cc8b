-- A refusal depends on no word behind the one that it is told with.
use Rattle.std.proofs.Common.{◌≡◌, ℕ, zero, suc, ◌+◌, ◌*◌, Bool, true, false, cond, List, [], ◌∷◌, Option, Some, None, Result, Ok, Err, ◌⊎◌, inl, inr, refl, sym, ap, subst, ◌∙◌, arith}
use Rattle.std.specs.Prelude.{◌==◌}
use Rattle.strips.specs.Words.{kind}
use Rattle.strips.specs.Kinds.{is_cell}
use Rattle.strips.specs.Items.{item_of}
use Rattle.strips.specs.Faults.{told_word}
use Rattle.strips.specs.Reading.{Left, from, ◌>>=◌, said, word_due, item_due, shape_by, shape_of, shape_due, count_of, count_due, cell_of, cell_due, raws_due, corner_of, extent_of, frame_due, begins, window_due, is_step, one_more, steps_from, steps_due}
use Rattle.strips.specs.declared.kind.CellKind.{CellKind}
use Rattle.strips.specs.declared.kind.NoSuchKind.{NoSuchKind}
use Rattle.strips.specs.declared.item.Item.{Item}
use Rattle.strips.specs.declared.item.Item.TheVariants.{Head, Cells, Corner, Extent, Point, Call, End}
use Rattle.strips.specs.declared.parts.Shape.{Shape}
use Rattle.sheets.specs.declared.window.Rectangle.{Rectangle}
use Rattle.strips.specs.declared.fault.StripFault.{StripFault}
use Rattle.strips.specs.declared.fault.StripFault.TheVariants.{At}
use Rattle.strips.specs.declared.fault.Ground.TheVariants.{CutShort, NoWord, OutOfOrder, NoKind, WrongCount, NoCell}
use Rattle.strips.proofs.Shapes.{bind_ok, ok_is}
use Rattle.strips.proofs.Loops.{beside, step_at, steps_first, steps_none}
use Rattle.strips.proofs.Taken.{framed}

-- the first n words of both lists are there, and the same
abbrev pub Agree : ℕ → List ℕ → List ℕ → Type 0
Agree zero ws vs = Unit {0}
Agree (suc n) [] vs = ⊥
Agree (suc n) (w ∷ ws) [] = ⊥
Agree (suc n) (w ∷ ws) (v ∷ vs) = (w ≡ v) × Agree n ws vs

-- which of two steps refused
pub bind_err : {A B : Type 0} (r : Result A StripFault) (f : A → Result B StripFault) (e : StripFault) → (r >>= f) ≡ Err e → (r ≡ Err e) ⊎ ((x : A) × (r ≡ Ok x) × (f x ≡ Err e))
bind_err (Ok x) f e h = inr (x, refl, h)
bind_err {A} (Err d) f e h = inl (let same : d ≡ e = cc in ap (λ (z : StripFault). Err z) same)

pub err_is : {A : Type 0} (d e : StripFault) → ◌≡◌ {A = Result A StripFault} (Err d) (Err e) → d ≡ e
err_is d e h = cc

-- an answer with what is left, put beside it, is no refusal
pub beside_err : {A : Type 0} (r : Result A StripFault) (m : Left) (e : StripFault) → (r >>= beside m) ≡ Err e → r ≡ Err e
beside_err (Ok x) m e h = absurd cc
beside_err {A} (Err d) m e h = ap (λ (z : StripFault). Err z) (err_is d e h)

-- d is steady: a refusal holds for all strips that agree up to the word that it is told with; so does an answer for those
-- that agree up to the word behind those taken
pub record Steady {A : Type 0} (d : Left → Result (A × Left) StripFault) : Type 0 where
  pub refused : (i : ℕ) (ws : List ℕ) (f : StripFault) → d (from i ws) ≡ Err f
      → (n : ℕ) × (told_word f ≡ i + n) × ((vs : List ℕ) → Agree (suc n) ws vs → d (from i vs) ≡ Err f)
  pub passed : (i : ℕ) (ws : List ℕ) (x : A) (m : Left) → d (from i ws) ≡ Ok (x, m)
      → (c : ℕ) × (m.place ≡ i + c) × ((n k : ℕ) (vs : List ℕ) → k ≡ c + n → Agree (suc k) ws vs → (us : List ℕ) × (d (from i vs) ≡ Ok (x, from m.place us)) × Agree (suc n) m.words us)

-- ---- a part of one word

-- a word, and what g makes of it
abbrev pub single : {A : Type 0} → (ℕ → ℕ → Result A StripFault) → Left → Result (A × Left) StripFault
single g l = word_due l >>= λ w. g l.place w.0 >>= beside w.1

-- g tells its refusals with the word that it was given
abbrev pub TellsHere : {A : Type 0} → (ℕ → ℕ → Result A StripFault) → Type 0
TellsHere g = (i w : ℕ) (f : StripFault) → g i w ≡ Err f → told_word f ≡ i

pub single_place : {A : Type 0} (g : ℕ → ℕ → Result A StripFault) → TellsHere g → (i : ℕ) (ws : List ℕ) (f : StripFault) → single g (from i ws) ≡ Err f → told_word f ≡ i
unfolding word_due
single_place {A} g tells i [] f e = sym (ap told_word (err_is {A = A × Left} (At CutShort i) f e))
single_place g tells i (w ∷ ws) f e = tells i w f (beside_err (g i w) (from (i + 1) ws) f e)

-- what a part of one word refused
pub single_cause : {A : Type 0} (g : ℕ → ℕ → Result A StripFault) (i : ℕ) (ws : List ℕ) (f : StripFault) → single g (from i ws) ≡ Err f
    → ((ws ≡ []) × (At CutShort i ≡ f)) ⊎ ((w : ℕ) × (after : List ℕ) × (ws ≡ w ∷ after) × (g i w ≡ Err f))
unfolding word_due
single_cause {A} g i [] f e = inl (refl, err_is {A = A × Left} (At CutShort i) f e)
single_cause g i (w ∷ ws) f e = inr (w, ws, refl, beside_err (g i w) (from (i + 1) ws) f e)

single_refused : {A : Type 0} (g : ℕ → ℕ → Result A StripFault) (i : ℕ) (ws : List ℕ) (f : StripFault) → single g (from i ws) ≡ Err f → (vs : List ℕ) → Agree 1 ws vs → single g (from i vs) ≡ Err f
unfolding word_due
single_refused g i [] f e vs same = absurd same
single_refused g i (w ∷ ws) f e [] same = absurd same
single_refused {A} g i (w ∷ ws) f e (v ∷ vs) same =
    let h : g i v ≡ Err f = ap (g i) (sym same.0) ∙ beside_err (g i w) (from (i + 1) ws) f e in
    ap (λ (r : Result A StripFault). r >>= beside (from (i + 1) vs)) h

single_goes : {A : Type 0} (g : ℕ → ℕ → Result A StripFault) (i w : ℕ) (ws : List ℕ) (x : A) → g i w ≡ Ok x → (n k : ℕ) (vs : List ℕ) → k ≡ 1 + n → Agree (suc k) (w ∷ ws) vs → (us : List ℕ) × (single g (from i vs) ≡ Ok (x, from (i + 1) us)) × Agree (suc n) ws us
unfolding word_due
single_goes g i w ws x h n k [] e same = absurd same
single_goes {A} g i w ws x h n k (v ∷ vs) e same =
    let there : g i v ≡ Ok x = ap (g i) (sym same.0) ∙ h in
    let more : k ≡ suc n = omega arith in
    (vs, ap (λ (r : Result A StripFault). r >>= beside (from (i + 1) vs)) there, subst (λ (j : ℕ). Agree j ws vs) more same.1)

single_passed : {A : Type 0} (g : ℕ → ℕ → Result A StripFault) (i : ℕ) (ws : List ℕ) (x : A) (m : Left) → single g (from i ws) ≡ Ok (x, m)
    → (c : ℕ) × (m.place ≡ i + c) × ((n k : ℕ) (vs : List ℕ) → k ≡ c + n → Agree (suc k) ws vs → (us : List ℕ) × (single g (from i vs) ≡ Ok (x, from m.place us)) × Agree (suc n) m.words us)
unfolding word_due
single_passed {A} g i [] x m e = absurd cc
single_passed {A} g i (w ∷ ws) x m e =
    let b = bind_ok (g i w) (beside (from (i + 1) ws)) (x, m) e in
    let one : A × Left = (b.0, from (i + 1) ws) in
    let two : A × Left = (x, m) in
    let p = ok_is one two b.2 in
    let made : (c : ℕ) × (i + 1 ≡ i + c) × ((n k : ℕ) (vs : List ℕ) → k ≡ c + n → Agree (suc k) (w ∷ ws) vs → (us : List ℕ) × (single g (from i vs) ≡ Ok (b.0, from (i + 1) us)) × Agree (suc n) ws us) =
    (1, refl, λ n k vs e same. single_goes g i w ws b.0 b.1 n k vs e same) in
    subst (λ (q : A × Left). (c : ℕ) × (q.1.place ≡ i + c) × ((n k : ℕ) (vs : List ℕ) → k ≡ c + n → Agree (suc k) (w ∷ ws) vs → (us : List ℕ) × (single g (from i vs) ≡ Ok (q.0, from q.1.place us)) × Agree (suc n) q.1.words us)) p made

pub steady_single : {A : Type 0} (g : ℕ → ℕ → Result A StripFault) → TellsHere g → Steady (single g)
unfolding word_due
steady_single {A} g tells = record {
  refused = λ i ws f e. (0, single_place g tells i ws f e ∙ (let z : i ≡ i + 0 = omega arith in z), single_refused g i ws f e);
  passed = λ i ws x m e. single_passed g i ws x m e;
}

-- ---- one part after another

then_refused : {A B : Type 0} (d : Left → Result (A × Left) StripFault) (e : A → Left → Result (B × Left) StripFault) → Steady d → ((x : A) → Steady (e x))
    → (i : ℕ) (ws : List ℕ) (f : StripFault) → (d (from i ws) >>= λ x. e x.0 x.1) ≡ Err f → (n : ℕ) × (told_word f ≡ i + n) × ((vs : List ℕ) → Agree (suc n) ws vs → (d (from i vs) >>= λ x. e x.0 x.1) ≡ Err f)
then_refused {A} {B} d e sd se i ws f h =
    let goes : A × Left → Result (B × Left) StripFault = λ x. e x.0 x.1 in
    elim (bind_err (d (from i ws)) goes f h) [
      | inl p ↦ (let r = sd.refused i ws f p in (r.0, r.1, λ vs same. ap (λ (z : Result (A × Left) StripFault). z >>= goes) (r.2 vs same)))
      | inr p ↦ (
          let t = sd.passed i ws p.0.0 p.0.1 p.1 in
          let r = (se p.0.0).refused p.0.1.place p.0.1.words f p.2 in (
            t.0 + r.0,
            omega (arith, t.1, r.1),
            λ vs same. (
                let u = t.2 r.0 (t.0 + r.0) vs refl same in
                ap (λ (z : Result (A × Left) StripFault). z >>= goes) u.1 ∙ r.2 u.0 u.2),
          ))
    ]

then_passed : {A B : Type 0} (d : Left → Result (A × Left) StripFault) (e : A → Left → Result (B × Left) StripFault) → Steady d → ((x : A) → Steady (e x))
    → (i : ℕ) (ws : List ℕ) (y : B) (m : Left) → (d (from i ws) >>= λ x. e x.0 x.1) ≡ Ok (y, m)
    → (c : ℕ) × (m.place ≡ i + c) × ((n k : ℕ) (vs : List ℕ) → k ≡ c + n → Agree (suc k) ws vs → (us : List ℕ) × ((d (from i vs) >>= λ x. e x.0 x.1) ≡ Ok (y, from m.place us)) × Agree (suc n) m.words us)
then_passed {A} {B} d e sd se i ws y m h =
    let goes : A × Left → Result (B × Left) StripFault = λ x. e x.0 x.1 in
    let p = bind_ok (d (from i ws)) goes (y, m) h in
    let t = sd.passed i ws p.0.0 p.0.1 p.1 in
    let r = (se p.0.0).passed p.0.1.place p.0.1.words y m p.2 in (
      t.0 + r.0,
      omega (arith, t.1, r.1),
      λ n k vs e same. (
          let u = t.2 (r.0 + n) k vs (omega arith) same in
          let v = r.2 n (r.0 + n) u.0 refl u.2 in
          (v.0, ap (λ (z : Result (A × Left) StripFault). z >>= goes) u.1 ∙ v.1, v.2)),
    )

pub steady_then : {A B : Type 0} (d : Left → Result (A × Left) StripFault) (e : A → Left → Result (B × Left) StripFault) → Steady d → ((x : A) → Steady (e x)) → Steady (λ l. d l >>= λ x. e x.0 x.1)
steady_then {A} {B} d e sd se = record {
  refused = λ i ws f h. then_refused d e sd se i ws f h;
  passed = λ i ws y m h. then_passed d e sd se i ws y m h;
}

-- the same reading under another name
steady_same : {A : Type 0} (d e : Left → Result (A × Left) StripFault) → ((i : ℕ) (ws : List ℕ) → e (from i ws) ≡ d (from i ws)) → Steady d → Steady e
steady_same {A} d e same s = record {
  refused = λ i ws f h. (let r = s.refused i ws f (sym (same i ws) ∙ h) in (r.0, r.1, λ vs a. same i vs ∙ r.2 vs a));
  passed = λ i ws x m h. (
      let t = s.passed i ws x m (sym (same i ws) ∙ h) in
      (t.0, t.1, λ n k vs e a. (let u = t.2 n k vs e a in (u.0, same i vs ∙ u.1, u.2))));
}

-- an answer that takes nothing
abbrev nothing : {A : Type 0} → A → Left → Result (A × Left) StripFault
nothing x l = Ok (x, l)

nothing_passed : {A : Type 0} (y x : A) (i : ℕ) (ws : List ℕ) (m : Left) → nothing y (from i ws) ≡ Ok (x, m)
    → (c : ℕ) × (m.place ≡ i + c) × ((n k : ℕ) (vs : List ℕ) → k ≡ c + n → Agree (suc k) ws vs → (us : List ℕ) × (nothing y (from i vs) ≡ Ok (x, from m.place us)) × Agree (suc n) m.words us)
nothing_passed {A} y x i ws m e =
    let one : A × Left = (y, from i ws) in
    let two : A × Left = (x, m) in
    let p = ok_is one two e in
    let made : (c : ℕ) × (i ≡ i + c) × ((n k : ℕ) (vs : List ℕ) → k ≡ c + n → Agree (suc k) ws vs → (us : List ℕ) × (nothing y (from i vs) ≡ Ok (y, from i us)) × Agree (suc n) ws us) =
    (0, (let z : i ≡ i + 0 = omega arith in z), λ n k vs e same. (vs, refl, (let j : k ≡ n = omega arith in subst (λ (q : ℕ). Agree (suc q) ws vs) j same))) in
    subst (λ (q : A × Left). (c : ℕ) × (q.1.place ≡ i + c) × ((n k : ℕ) (vs : List ℕ) → k ≡ c + n → Agree (suc k) ws vs → (us : List ℕ) × (nothing y (from i vs) ≡ Ok (q.0, from q.1.place us)) × Agree (suc n) q.1.words us)) p made

steady_nothing : {A : Type 0} (y : A) → Steady (nothing y)
steady_nothing {A} y = record {
  refused = λ i ws f e. absurd cc;
  passed = λ i ws x m e. nothing_passed y x i ws m e;
}

-- ---- a part that is what one word says

-- the item of a word, and what h makes of it
abbrev pub of_item : {A : Type 0} → (ℕ → Item → Result A StripFault) → ℕ → ℕ → Result A StripFault
of_item h i w = said i (item_of w) >>= h i

said_here : {A : Type 0} (h : ℕ → Item → Result A StripFault) → ((i : ℕ) (x : Item) (f : StripFault) → h i x ≡ Err f → told_word f ≡ i) → (i : ℕ) (o : Option Item) (f : StripFault) → (said i o >>= h i) ≡ Err f → told_word f ≡ i
said_here h tells i (Some x) f e = tells i x f e
said_here {A} h tells i None f e = sym (ap told_word (err_is {A = A} (At NoWord i) f e))

item_told : {A : Type 0} (h : ℕ → Item → Result A StripFault) (i : ℕ) (o : Option Item) (m : Left) → ((said i o >>= beside m) >>= λ (x : Item × Left). h i x.0 >>= beside x.1) ≡ ((said i o >>= h i) >>= beside m)
item_told h i (Some x) m = refl
item_told h i None m = refl

-- a part that takes an item is a part of one word
pub item_single : {A : Type 0} (h : ℕ → Item → Result A StripFault) (i : ℕ) (ws : List ℕ) → (item_due (from i ws) >>= λ (x : Item × Left). h i x.0 >>= beside x.1) ≡ single (of_item h) (from i ws)
unfolding item_due word_due
item_single h i [] = refl
item_single h i (w ∷ ws) = item_told h i (item_of w) (from (i + 1) ws)

order_here : {A : Type 0} (i : ℕ) (f : StripFault) → ◌≡◌ {A = Result A StripFault} (Err (At OutOfOrder i)) (Err f) → told_word f ≡ i
order_here {A} i f e = sym (ap told_word (err_is {A = A} (At OutOfOrder i) f e))

kind_here : (i : ℕ) (k : Result CellKind NoSuchKind) (w h : ℕ) (f : StripFault) → shape_by i k w h ≡ Err f → told_word f ≡ i
kind_here i (Ok k) w h f e = absurd cc
kind_here i (Err n) w h f e = sym (ap told_word (err_is {A = Shape} (At NoKind i) f e))

shape_here : (i : ℕ) (x : Item) (f : StripFault) → shape_of i x ≡ Err f → told_word f ≡ i
shape_here i (Head k w h) f e = kind_here i k w h f e
shape_here i (Cells n) f e = order_here {A = Shape} i f e
shape_here i (Corner c r) f e = order_here {A = Shape} i f e
shape_here i (Extent w h) f e = order_here {A = Shape} i f e
shape_here i (Point p) f e = order_here {A = Shape} i f e
shape_here i (Call q) f e = order_here {A = Shape} i f e
shape_here i End f e = order_here {A = Shape} i f e

count_by_here : (b : Bool) (n i : ℕ) (f : StripFault) → ◌≡◌ {A = Result ℕ StripFault} (cond b (Ok n) (Err (At WrongCount i))) (Err f) → told_word f ≡ i
count_by_here true n i f e = absurd cc
count_by_here false n i f e = sym (ap told_word (err_is {A = ℕ} (At WrongCount i) f e))

count_here : (n i : ℕ) (x : Item) (f : StripFault) → count_of n i x ≡ Err f → told_word f ≡ i
count_here n i (Head k w h) f e = order_here {A = ℕ} i f e
count_here n i (Cells m) f e = count_by_here (m == n) n i f e
count_here n i (Corner c r) f e = order_here {A = ℕ} i f e
count_here n i (Extent w h) f e = order_here {A = ℕ} i f e
count_here n i (Point p) f e = order_here {A = ℕ} i f e
count_here n i (Call q) f e = order_here {A = ℕ} i f e
count_here n i End f e = order_here {A = ℕ} i f e

pub corner_refused : (i : ℕ) (x : Item) (f : StripFault) → corner_of i x ≡ Err f → At OutOfOrder i ≡ f
corner_refused i (Head k w h) f e = err_is {A = ℕ × ℕ} (At OutOfOrder i) f e
corner_refused i (Cells m) f e = err_is {A = ℕ × ℕ} (At OutOfOrder i) f e
corner_refused i (Corner c r) f e = absurd cc
corner_refused i (Extent w h) f e = err_is {A = ℕ × ℕ} (At OutOfOrder i) f e
corner_refused i (Point p) f e = err_is {A = ℕ × ℕ} (At OutOfOrder i) f e
corner_refused i (Call q) f e = err_is {A = ℕ × ℕ} (At OutOfOrder i) f e
corner_refused i End f e = err_is {A = ℕ × ℕ} (At OutOfOrder i) f e

corner_here : (i : ℕ) (x : Item) (f : StripFault) → corner_of i x ≡ Err f → told_word f ≡ i
corner_here i x f e = sym (ap told_word (corner_refused i x f e))

pub extent_refused : (i : ℕ) (x : Item) (f : StripFault) → extent_of i x ≡ Err f → At OutOfOrder i ≡ f
extent_refused i (Head k w h) f e = err_is {A = ℕ × ℕ} (At OutOfOrder i) f e
extent_refused i (Cells m) f e = err_is {A = ℕ × ℕ} (At OutOfOrder i) f e
extent_refused i (Corner c r) f e = err_is {A = ℕ × ℕ} (At OutOfOrder i) f e
extent_refused i (Extent w h) f e = absurd cc
extent_refused i (Point p) f e = err_is {A = ℕ × ℕ} (At OutOfOrder i) f e
extent_refused i (Call q) f e = err_is {A = ℕ × ℕ} (At OutOfOrder i) f e
extent_refused i End f e = err_is {A = ℕ × ℕ} (At OutOfOrder i) f e

extent_here : (i : ℕ) (x : Item) (f : StripFault) → extent_of i x ≡ Err f → told_word f ≡ i
extent_here i x f e = sym (ap told_word (extent_refused i x f e))

pub step_refused : (i : ℕ) (x : Item) (f : StripFault) → is_step i x ≡ Err f → At OutOfOrder i ≡ f
step_refused i (Head k w h) f e = err_is {A = Bool} (At OutOfOrder i) f e
step_refused i (Cells m) f e = err_is {A = Bool} (At OutOfOrder i) f e
step_refused i (Corner c r) f e = err_is {A = Bool} (At OutOfOrder i) f e
step_refused i (Extent w h) f e = err_is {A = Bool} (At OutOfOrder i) f e
step_refused i (Point p) f e = absurd cc
step_refused i (Call q) f e = absurd cc
step_refused i End f e = absurd cc

step_here : (i : ℕ) (x : Item) (f : StripFault) → is_step i x ≡ Err f → told_word f ≡ i
step_here i x f e = sym (ap told_word (step_refused i x f e))

cell_by_here : (b : Bool) (i w : ℕ) (f : StripFault) → ◌≡◌ {A = Result ℕ StripFault} (cond b (Ok w) (Err (At NoCell i))) (Err f) → told_word f ≡ i
cell_by_here true i w f e = absurd cc
cell_by_here false i w f e = sym (ap told_word (err_is {A = ℕ} (At NoCell i) f e))

-- ---- the parts of a strip

-- h's part, where h tells its refusals with its word
steady_item : {A : Type 0} (h : ℕ → Item → Result A StripFault) → ((i : ℕ) (x : Item) (f : StripFault) → h i x ≡ Err f → told_word f ≡ i) → Steady (single (of_item h))
steady_item h tells = steady_single (of_item h) (λ i w f e. said_here h tells i (item_of w) f e)

steady_shape : Steady shape_due
unfolding shape_due
steady_shape = steady_same (single (of_item shape_of)) shape_due (λ i ws. item_single shape_of i ws) (steady_item shape_of shape_here)

steady_count : (n : ℕ) → Steady (count_due n)
unfolding count_due
steady_count n = steady_same (single (of_item (count_of n))) (count_due n) (λ i ws. item_single (count_of n) i ws) (steady_item (count_of n) (count_here n))

pub steady_cell : (k : CellKind) → Steady (cell_due k)
unfolding cell_due
steady_cell k = steady_single (cell_of k) (λ i w f e. cell_by_here (is_cell k w) i w f e)

-- nothing, beside what is left
abbrev pub bare : Left → Result (Unit {0} × Left) StripFault
bare m = Ok (tt, m)

-- the raw words, beside nothing
abbrev pub raws_beside : CellKind → ℕ → Left → Result (Unit {0} × Left) StripFault
raws_beside k n l = raws_due k n l >>= bare

raws_shifted : (r : Result (ℕ × Left) StripFault) (f : ℕ × Left → Result Left StripFault) → ((r >>= f) >>= bare) ≡ (r >>= λ x. f x >>= bare)
raws_shifted (Ok x) f = refl
raws_shifted (Err e) f = refl

raws_more : (k : CellKind) (n i : ℕ) (ws : List ℕ) → raws_beside k (suc n) (from i ws) ≡ (cell_due k (from i ws) >>= λ x. raws_beside k n x.1)
unfolding raws_due
raws_more k n i ws = raws_shifted (cell_due k (from i ws)) (λ x. raws_due k n x.1)

steady_raws : (k : CellKind) (n : ℕ) → Steady (raws_beside k n)
unfolding raws_due
steady_raws k zero = steady_nothing tt
steady_raws k (suc n) =
    let next : ℕ → Left → Result (Unit {0} × Left) StripFault = λ c. raws_beside k n in
    let all : Left → Result (Unit {0} × Left) StripFault = λ l. cell_due k l >>= λ x. next x.0 x.1 in
    steady_same all (raws_beside k (suc n)) (λ i ws. raws_more k n i ws) (steady_then (cell_due k) next (steady_cell k) (λ c. steady_raws k n))

-- ---- a window

-- a frame of two pairs, and what is left
abbrev framing : ℕ × ℕ → Left → ℕ × ℕ → Result (Rectangle × Left) StripFault
framing c m e = Ok (framed c e, m)

abbrev pub corner_part : Left → Result ((ℕ × ℕ) × Left) StripFault
corner_part l = single (of_item corner_of) l

abbrev pub extent_part : ℕ × ℕ → Left → Result (Rectangle × Left) StripFault
extent_part c l = single (of_item extent_of) l >>= λ e. Ok (framed c e.0, e.1)

frame_told : (r : Result (ℕ × ℕ) StripFault) (m : Left) (f : ℕ × ℕ → Left → Result (Rectangle × Left) StripFault) → (r >>= λ c. f c m) ≡ ((r >>= beside m) >>= λ c. f c.0 c.1)
frame_told (Ok c) m f = refl
frame_told (Err e) m f = refl

extent_told : (r : Result (ℕ × ℕ) StripFault) (m : Left) (c : ℕ × ℕ) → (r >>= framing c m) ≡ ((r >>= beside m) >>= λ (e : (ℕ × ℕ) × Left). framing c e.1 e.0)
extent_told (Ok e) m c = refl
extent_told (Err e) m c = refl

extent_shifted : (i : ℕ) (r : Result (Item × Left) StripFault) (c : ℕ × ℕ) → (r >>= λ x. extent_of i x.0 >>= framing c x.1) ≡ ((r >>= λ x. extent_of i x.0 >>= beside x.1) >>= λ (e : (ℕ × ℕ) × Left). framing c e.1 e.0)
extent_shifted i (Ok x) c = extent_told (extent_of i x.0) x.1 c
extent_shifted i (Err e) c = refl

frame_shifted : (i : ℕ) (r : Result (Item × Left) StripFault) (f : ℕ × ℕ → Left → Result (Rectangle × Left) StripFault) → (r >>= λ x. corner_of i x.0 >>= λ c. f c x.1) ≡ ((r >>= λ x. corner_of i x.0 >>= beside x.1) >>= λ c. f c.0 c.1)
frame_shifted i (Ok x) f = frame_told (corner_of i x.0) x.1 f
frame_shifted i (Err e) f = refl

bind_same : {A B : Type 0} (r : Result A StripFault) (f g : A → Result B StripFault) → ((x : A) → f x ≡ g x) → (r >>= f) ≡ (r >>= g)
bind_same (Ok x) f g h = h x
bind_same (Err e) f g h = refl

-- a frame is a corner, and then an extent
pub frame_parts : (i : ℕ) (ws : List ℕ) → frame_due (from i ws) ≡ (corner_part (from i ws) >>= λ c. extent_part c.0 c.1)
unfolding frame_due
frame_parts i ws =
    let second : ℕ × ℕ → Left → Result (Rectangle × Left) StripFault = λ c m. item_due m >>= λ y. extent_of m.place y.0 >>= λ e. Ok (framed c e, y.1) in
    let parts : (c : ℕ × ℕ) (m : Left) → second c m ≡ extent_part c m = λ c m. extent_shifted m.place (item_due m) c ∙ ap (λ (r : Result ((ℕ × ℕ) × Left) StripFault). r >>= λ e. Ok (framed c e.0, e.1)) (item_single extent_of m.place m.words) in
    frame_shifted i (item_due (from i ws)) second
    ∙ ap (λ (r : Result ((ℕ × ℕ) × Left) StripFault). r >>= λ c. second c.0 c.1) (item_single corner_of i ws)
    ∙ bind_same (corner_part (from i ws)) (λ c. second c.0 c.1) (λ c. extent_part c.0 c.1) (λ c. parts c.0 c.1)

steady_extent : (c : ℕ × ℕ) → Steady (extent_part c)
steady_extent c =
    let done : ℕ × ℕ → Left → Result (Rectangle × Left) StripFault = λ e. nothing (framed c e) in
    steady_then (single (of_item extent_of)) done (steady_item extent_of extent_here) (λ e. steady_nothing (framed c e))

steady_frame : Steady frame_due
steady_frame =
    let all : Left → Result (Rectangle × Left) StripFault = λ l. corner_part l >>= λ c. extent_part c.0 c.1 in
    steady_same all frame_due (λ i ws. frame_parts i ws) (steady_then corner_part extent_part (steady_item corner_of corner_here) (λ c. steady_extent c))

-- the frame as a window
abbrev pub some_frame : Left → Result (Option Rectangle × Left) StripFault
some_frame l = frame_due l >>= λ f. Ok (Some f.0, f.1)

steady_some : Steady some_frame
steady_some =
    let done : Rectangle → Left → Result (Option Rectangle × Left) StripFault = λ f. nothing (Some f) in
    steady_then frame_due done steady_frame (λ f. steady_nothing (Some f))

-- which of the two it is, the first word tells
begins_same : (n : ℕ) (ws vs : List ℕ) → Agree (suc n) ws vs → begins vs ≡ begins ws
begins_same n [] vs same = absurd same
begins_same n (w ∷ ws) [] same = absurd same
begins_same n (w ∷ ws) (v ∷ vs) same = ap (λ (x : ℕ). kind x == 3) (sym same.0)

abbrev either : Bool → Left → Result (Option Rectangle × Left) StripFault
either b l = cond b (some_frame l) (nothing None l)

steady_either : (b : Bool) → Steady (either b)
steady_either true = steady_some
steady_either false = steady_nothing None

pub steady_window : Steady window_due
unfolding window_due
steady_window = record {
  refused = λ i ws f e. (
      let r = (steady_either (begins ws)).refused i ws f e in
      (r.0, r.1, λ vs same. ap (λ (b : Bool). either b (from i vs)) (begins_same r.0 ws vs same) ∙ r.2 vs same));
  passed = λ i ws x m e. (
      let t = (steady_either (begins ws)).passed i ws x m e in (
        t.0,
        t.1,
        λ n k vs e same. (
            let u = t.2 n k vs e same in
            (u.0, ap (λ (b : Bool). either b (from i vs)) (begins_same k ws vs same) ∙ u.1, u.2)),
      ));
}

-- ---- the steps

-- the first word is no step, and not the end
refused_here : (i w : ℕ) (ws : List ℕ) (f : StripFault) → step_at i w ≡ Err f → (vs : List ℕ) → Agree 1 (w ∷ ws) vs → steps_from i vs ≡ Err f
refused_here i w ws f h [] same = absurd same
refused_here i w ws f h (v ∷ vs) same =
    let goes : Bool → Result (ℕ × Left) StripFault = λ b. cond b (steps_from (i + 1) vs >>= one_more) (Ok (0, from (i + 1) vs)) in
    steps_first i v vs ∙ ap (λ (r : Result Bool StripFault). r >>= goes) (ap (step_at i) (sym same.0) ∙ h)

pub one_more_err : (r : Result (ℕ × Left) StripFault) (f : StripFault) → (r >>= one_more) ≡ Err f → r ≡ Err f
one_more_err (Ok k) f e = absurd cc
one_more_err (Err d) f e = ap (λ (z : StripFault). Err z) (err_is {A = ℕ × Left} d f e)

-- the first word is a step, and a later one is refused
refused_later : (i w : ℕ) (ws : List ℕ) (f : StripFault) (n : ℕ) → step_at i w ≡ Ok true → ((vs : List ℕ) → Agree (suc n) ws vs → steps_from (i + 1) vs ≡ Err f) → (vs : List ℕ) → Agree (suc (suc n)) (w ∷ ws) vs → steps_from i vs ≡ Err f
refused_later i w ws f n h more [] same = absurd same
refused_later i w ws f n h more (v ∷ vs) same =
    let goes : Bool → Result (ℕ × Left) StripFault = λ b. cond b (steps_from (i + 1) vs >>= one_more) (Ok (0, from (i + 1) vs)) in
    steps_first i v vs
    ∙ ap (λ (r : Result Bool StripFault). r >>= goes) (ap (step_at i) (sym same.0) ∙ h)
    ∙ ap (λ (r : Result (ℕ × Left) StripFault). r >>= one_more) (more vs same.1)

refused_on : (i w : ℕ) (ws : List ℕ) (f : StripFault) (b : Bool) → step_at i w ≡ Ok b → cond b (steps_from (i + 1) ws >>= one_more) (Ok (0, from (i + 1) ws)) ≡ Err f
    → (steps_from (i + 1) ws ≡ Err f → (n : ℕ) × (told_word f ≡ i + 1 + n) × ((vs : List ℕ) → Agree (suc n) ws vs → steps_from (i + 1) vs ≡ Err f))
    → (n : ℕ) × (told_word f ≡ i + n) × ((vs : List ℕ) → Agree (suc n) (w ∷ ws) vs → steps_from i vs ≡ Err f)
refused_on i w ws f true h e more =
    let r = more (one_more_err (steps_from (i + 1) ws) f e) in
    (suc r.0, omega (arith, r.1), λ vs same. refused_later i w ws f r.0 h r.2 vs same)
refused_on i w ws f false h e more = absurd cc

steps_refused_by : (i : ℕ) (ws : List ℕ) (f : StripFault) → steps_from i ws ≡ Err f → (n : ℕ) × (told_word f ≡ i + n) × ((vs : List ℕ) → Agree (suc n) ws vs → steps_from i vs ≡ Err f)
steps_refused_by i [] f e =
    let here : At CutShort i ≡ f = err_is {A = ℕ × Left} (At CutShort i) f (sym (steps_none i) ∙ e) in
    (0, sym (ap told_word here) ∙ (let z : i ≡ i + 0 = omega arith in z), λ vs same. absurd same)
steps_refused_by i (w ∷ ws) f e =
    let goes : Bool → Result (ℕ × Left) StripFault = λ b. cond b (steps_from (i + 1) ws >>= one_more) (Ok (0, from (i + 1) ws)) in
    elim (bind_err (step_at i w) goes f (sym (steps_first i w ws) ∙ e)) [
      | inl p ↦ (0, said_here is_step step_here i (item_of w) f p ∙ (let z : i ≡ i + 0 = omega arith in z), λ vs same. refused_here i w ws f p vs same)
      | inr p ↦ refused_on i w ws f p.0 p.1 p.2 (λ h. steps_refused_by (i + 1) ws f h)
    ]

-- a run of steps with its end, and what is left behind it
abbrev Ran : ℕ → List ℕ → ℕ → Left → Type 0
Ran i ws x m = (c : ℕ) × (m.place ≡ i + c) × ((n k : ℕ) (vs : List ℕ) → k ≡ c + n → Agree (suc k) ws vs → (us : List ℕ) × (steps_from i vs ≡ Ok (x, from m.place us)) × Agree (suc n) m.words us)

ended_here : (i w : ℕ) (ws : List ℕ) → step_at i w ≡ Ok false → (n k : ℕ) (vs : List ℕ) → k ≡ 1 + n → Agree (suc k) (w ∷ ws) vs → (us : List ℕ) × (steps_from i vs ≡ Ok (0, from (i + 1) us)) × Agree (suc n) ws us
ended_here i w ws h n k [] e same = absurd same
ended_here i w ws h n k (v ∷ vs) e same =
    let goes : Bool → Result (ℕ × Left) StripFault = λ b. cond b (steps_from (i + 1) vs >>= one_more) (Ok (0, from (i + 1) vs)) in
    let more : k ≡ suc n = omega arith in
    (vs, steps_first i v vs ∙ ap (λ (r : Result Bool StripFault). r >>= goes) (ap (step_at i) (sym same.0) ∙ h), subst (λ (j : ℕ). Agree j ws vs) more same.1)

went_on : (i w : ℕ) (ws : List ℕ) (x : ℕ) (m : Left) → step_at i w ≡ Ok true → (t : Ran (i + 1) ws x m) → (n k : ℕ) (vs : List ℕ) → k ≡ suc t.0 + n → Agree (suc k) (w ∷ ws) vs → (us : List ℕ) × (steps_from i vs ≡ Ok (x + 1, from m.place us)) × Agree (suc n) m.words us
went_on i w ws x m h t n k [] e same = absurd same
went_on i w ws x m h t n k (v ∷ vs) e same =
    let goes : Bool → Result (ℕ × Left) StripFault = λ b. cond b (steps_from (i + 1) vs >>= one_more) (Ok (0, from (i + 1) vs)) in
    let j : k ≡ suc (t.0 + n) = omega arith in
    let u = t.2 n (t.0 + n) vs refl (subst (λ (q : ℕ). Agree q ws vs) j same.1) in (
      u.0,
      steps_first i v vs
          ∙ ap (λ (r : Result Bool StripFault). r >>= goes) (ap (step_at i) (sym same.0) ∙ h)
          ∙ ap (λ (r : Result (ℕ × Left) StripFault). r >>= one_more) u.1,
      u.2,
    )

ran_on : (i w : ℕ) (ws : List ℕ) (x : ℕ) (m : Left) (b : Bool) → step_at i w ≡ Ok b → cond b (steps_from (i + 1) ws >>= one_more) (Ok (0, from (i + 1) ws)) ≡ Ok (x, m)
    → ((y : ℕ) (l : Left) → steps_from (i + 1) ws ≡ Ok (y, l) → Ran (i + 1) ws y l) → Ran i (w ∷ ws) x m
ran_on i w ws x m true h e more =
    let p = bind_ok (steps_from (i + 1) ws) one_more (x, m) e in
    let t = more p.0.0 p.0.1 p.1 in
    let one : ℕ × Left = (p.0.0 + 1, p.0.1) in
    let two : ℕ × Left = (x, m) in
    let made : Ran i (w ∷ ws) (p.0.0 + 1) p.0.1 = (suc t.0, omega (arith, t.1), λ n k vs e same. went_on i w ws p.0.0 p.0.1 h t n k vs e same) in
    subst (λ (q : ℕ × Left). Ran i (w ∷ ws) q.0 q.1) (ok_is one two p.2) made
ran_on i w ws x m false h e more =
    let one : ℕ × Left = (0, from (i + 1) ws) in
    let two : ℕ × Left = (x, m) in
    let made : Ran i (w ∷ ws) 0 (from (i + 1) ws) = (1, refl, λ n k vs e same. ended_here i w ws h n k vs e same) in
    subst (λ (q : ℕ × Left). Ran i (w ∷ ws) q.0 q.1) (ok_is one two e) made

ran : (i : ℕ) (ws : List ℕ) (x : ℕ) (m : Left) → steps_from i ws ≡ Ok (x, m) → Ran i ws x m
ran i [] x m e = absurd (let s = steps_none i in cc)
ran i (w ∷ ws) x m e =
    let goes : Bool → Result (ℕ × Left) StripFault = λ b. cond b (steps_from (i + 1) ws >>= one_more) (Ok (0, from (i + 1) ws)) in
    let b = bind_ok (step_at i w) goes (x, m) (sym (steps_first i w ws) ∙ e) in
    ran_on i w ws x m b.0 b.1 b.2 (λ y l h. ran (i + 1) ws y l h)

pub steady_steps : Steady steps_due
steady_steps = record {
  refused = λ i ws f e. steps_refused_by i ws f e;
  passed = λ i ws x m e. ran i ws x m e;
}

-- ---- where the parts are refused

-- the head's part and the count's are parts of one word
pub shape_single : (i : ℕ) (ws : List ℕ) → shape_due (from i ws) ≡ single (of_item shape_of) (from i ws)
unfolding shape_due
shape_single i ws = item_single shape_of i ws

pub count_single : (n i : ℕ) (ws : List ℕ) → count_due n (from i ws) ≡ single (of_item (count_of n)) (from i ws)
unfolding count_due
count_single n i ws = item_single (count_of n) i ws

pub shape_place : (i : ℕ) (ws : List ℕ) (f : StripFault) → shape_due (from i ws) ≡ Err f → told_word f ≡ i
unfolding shape_due
shape_place i ws f e = single_place (of_item shape_of) (λ i w f e. said_here shape_of shape_here i (item_of w) f e) i ws f (sym (item_single shape_of i ws) ∙ e)

pub count_place : (n i : ℕ) (ws : List ℕ) (f : StripFault) → count_due n (from i ws) ≡ Err f → told_word f ≡ i
unfolding count_due
count_place n i ws f e = single_place (of_item (count_of n)) (λ i w f e. said_here (count_of n) (count_here n) i (item_of w) f e) i ws f (sym (item_single (count_of n) i ws) ∙ e)

pub cell_place : (k : CellKind) (i : ℕ) (ws : List ℕ) (f : StripFault) → cell_due k (from i ws) ≡ Err f → told_word f ≡ i
unfolding cell_due
cell_place k i ws f e = single_place (cell_of k) (λ i w f e. cell_by_here (is_cell k w) i w f e) i ws f e

pub corner_place : (i : ℕ) (ws : List ℕ) (f : StripFault) → corner_part (from i ws) ≡ Err f → told_word f ≡ i
corner_place i ws f e = single_place (of_item corner_of) (λ i w f e. said_here corner_of corner_here i (item_of w) f e) i ws f e

pub extent_err : (r : Result ((ℕ × ℕ) × Left) StripFault) (c : ℕ × ℕ) (f : StripFault) → (r >>= λ (e : (ℕ × ℕ) × Left). framing c e.1 e.0) ≡ Err f → r ≡ Err f
extent_err (Ok e) c f h = absurd cc
extent_err (Err d) c f h = ap (λ (z : StripFault). Err z) (err_is {A = Rectangle × Left} d f h)

pub extent_place : (c : ℕ × ℕ) (i : ℕ) (ws : List ℕ) (f : StripFault) → extent_part c (from i ws) ≡ Err f → told_word f ≡ i
extent_place c i ws f e = single_place (of_item extent_of) (λ i w f e. said_here extent_of extent_here i (item_of w) f e) i ws f (extent_err (single (of_item extent_of) (from i ws)) c f e)

pub step_at_place : (i w : ℕ) (f : StripFault) → step_at i w ≡ Err f → told_word f ≡ i
step_at_place i w f e = said_here is_step step_here i (item_of w) f e

-- ---- the whole, but for the end

-- the parts up to the end word
unfoldable pub parts : Left → Result (Unit {0} × Left) StripFault
parts l = shape_due l >>= λ s. (count_due (s.0.width * s.0.height) s.1 >>= λ c. (raws_beside s.0.kind c.0 c.1 >>= λ r. (window_due r.1 >>= λ f. (steps_due f.1 >>= λ k. bare k.1))))

pub steady_parts : Steady parts
unfolding parts
steady_parts =
    let e5 : ℕ → Left → Result (Unit {0} × Left) StripFault = λ k. nothing tt in
    let e4 : Option Rectangle → Left → Result (Unit {0} × Left) StripFault = λ f l. steps_due l >>= λ k. e5 k.0 k.1 in
    let e3 : Unit {0} → Left → Result (Unit {0} × Left) StripFault = λ u l. window_due l >>= λ f. e4 f.0 f.1 in
    let e2 : CellKind → ℕ → Left → Result (Unit {0} × Left) StripFault = λ k n l. raws_beside k n l >>= λ r. e3 r.0 r.1 in
    let e1 : Shape → Left → Result (Unit {0} × Left) StripFault = λ s l. count_due (s.width * s.height) l >>= λ c. e2 s.kind c.0 c.1 in
    let s4 : (f : Option Rectangle) → Steady (e4 f) = λ f. steady_then steps_due e5 steady_steps (λ k. steady_nothing tt) in
    let s3 : (u : Unit {0}) → Steady (e3 u) = λ u. steady_then window_due e4 steady_window s4 in
    let s2 : (k : CellKind) (n : ℕ) → Steady (e2 k n) = λ k n. steady_then (raws_beside k n) e3 (steady_raws k n) s3 in
    let s1 : (s : Shape) → Steady (e1 s) = λ s. steady_then (count_due (s.width * s.height)) (e2 s.kind) (steady_count (s.width * s.height)) (s2 s.kind) in
    steady_then shape_due e1 steady_shape s1
