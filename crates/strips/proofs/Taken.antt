-- What is read is spelled so: each part of the reading took just the words of what it read.
use Rattle.std.proofs.Common.{◌≡◌, ℕ, zero, suc, ◌+◌, ◌^◌, ◌<◌, Bool, true, false, cond, inl, inr, List, [], ◌∷◌, ◌++◌, length, map, take, Option, Some, None, Result, Ok, Err, refl, sym, ap, subst, ◌∙◌, arith, add-one}
use Rattle.std.specs.Prelude.{◌==◌, IfSome}
use Rattle.std.specs.List.{AllByRecursion}
use Rattle.std.proofs.lemmas.Bool.{eqb-true}
use Rattle.strips.specs.Kinds.{is_cell}
use Rattle.strips.specs.Items.{item_of, item_word, Fits}
use Rattle.strips.specs.Jobs.{step_item, corner, extent, window_words, step_words, step_of, IsRaw}
use Rattle.strips.specs.Reading.{Left, from, ◌>>=◌, said, word_due, item_due, shape_of, shape_due, count_of, count_due, cell_due, raws_due, corner_of, extent_of, frame_due, begins, window_due, is_step, one_more, steps_from}
use Rattle.strips.specs.declared.kind.CellKind.{CellKind}
use Rattle.strips.specs.declared.item.Item.{Item}
use Rattle.strips.specs.declared.item.Item.TheVariants.{Head, Cells, Corner, Extent, Point, Call, End}
use Rattle.strips.specs.declared.parts.Shape.{Shape}
use Rattle.sheets.specs.declared.window.Rectangle.{Rectangle}
use Rattle.strips.specs.declared.fault.StripFault.{StripFault}
use Rattle.strips.specs.declared.fault.StripFault.TheVariants.{At}
use Rattle.strips.specs.declared.fault.Ground.TheVariants.{NoCell, WrongCount}
use Rattle.strips.proofs.Items.{chosen, item_takes}
use Rattle.strips.proofs.Shapes.{bind_ok, ok_is, said_is, item_first, shape_is}
use Rattle.strips.proofs.Loops.{beside, step_at, steps_first, steps_none}

-- a word, where one is due, that says x, which f makes y of
pub record Part {A : Type 0} (f : Item → Result A StripFault) (i : ℕ) (ws : List ℕ) (y : A) (m : Left) : Type 0 where
  pub item : Item
  pub front : ws ≡ item_word item ∷ m.words
  pub fits : Fits item
  pub place : m.place ≡ i + 1
  pub made : f item ≡ Ok y

-- an item that was read is that of the word at the front
pub item_spelled : (i : ℕ) (ws : List ℕ) (x : Item) (m : Left) → item_due (from i ws) ≡ Ok (x, m) → (ws ≡ item_word x ∷ m.words) × (m.place ≡ i + 1) × Fits x
item_spelled i ws x m e =
    let t = item_first i ws x m e in
    let k = item_takes t.0 x t.3 in
    (t.1 ∙ ap (λ (w : ℕ). w ∷ m.words) (sym k.0), t.2, k.1)

pub part_takes : {A : Type 0} (f : Item → Result A StripFault) (i : ℕ) (ws : List ℕ) (y : A) (m : Left) → (item_due (from i ws) >>= λ (x : Item × Left). f x.0 >>= beside x.1) ≡ Ok (y, m) → Part f i ws y m
part_takes {A} f i ws y m e =
    let rest : Item × Left → Result (A × Left) StripFault = λ x. f x.0 >>= beside x.1 in
    let b = bind_ok (item_due (from i ws)) rest (y, m) e in
    let d = bind_ok (f b.0.0) (beside b.0.1) (y, m) b.2 in
    let one : A × Left = (d.0, b.0.1) in
    let p = ok_is one (y, m) d.2 in
    let t = item_spelled i ws b.0.0 b.0.1 b.1 in
    let made : Part f i ws d.0 b.0.1 = record {
      item = b.0.0;
      front = t.0;
      fits = t.2;
      place = t.1;
      made = d.1;
    } in
    subst (λ (q : A × Left). Part f i ws q.0 q.1) p made

-- ---- the head

pub record TheHead (ws : List ℕ) (s : Shape) (m : Left) : Type 0 where
  pub front : ws ≡ item_word (Head (Ok s.kind) s.width s.height) ∷ m.words
  pub fits : Fits (Head (Ok s.kind) s.width s.height)
  pub place : m.place ≡ 1

pub shape_takes : (ws : List ℕ) (s : Shape) (m : Left) → shape_due (from 0 ws) ≡ Ok (s, m) → TheHead ws s m
unfolding shape_due
shape_takes ws s m e =
    let p = part_takes (shape_of 0) 0 ws s m e in
    let same : p.item ≡ Head (Ok s.kind) s.width s.height = shape_is 0 p.item s p.made in
    record { front = p.front ∙ ap (λ (x : Item). item_word x ∷ m.words) same; fits = subst Fits same p.fits; place = p.place }

-- ---- the cells word

count_by : (b : Bool) (i n c : ℕ) → ◌≡◌ {A = Result ℕ StripFault} (cond b (Ok n) (Err (At WrongCount i))) (Ok c) → (b ≡ true) × (n ≡ c)
count_by true i n c e = (refl, cc)
count_by false i n c e = absurd cc

count_is : (n i : ℕ) (x : Item) (c : ℕ) → count_of n i x ≡ Ok c → (x ≡ Cells n) × (n ≡ c)
count_is n i (Head k w h) c e = absurd cc
count_is n i (Cells m) c e = let b = count_by (m == n) i n c e in (ap Cells (eqb-true m n b.0), b.1)
count_is n i (Corner a r) c e = absurd cc
count_is n i (Extent w h) c e = absurd cc
count_is n i (Point p) c e = absurd cc
count_is n i (Call q) c e = absurd cc
count_is n i End c e = absurd cc

pub record TheCount (n i : ℕ) (ws : List ℕ) (c : ℕ) (m : Left) : Type 0 where
  pub front : ws ≡ item_word (Cells n) ∷ m.words
  pub count : n ≡ c
  pub place : m.place ≡ i + 1

pub count_takes : (n i : ℕ) (ws : List ℕ) (c : ℕ) (m : Left) → count_due n (from i ws) ≡ Ok (c, m) → TheCount n i ws c m
unfolding count_due
count_takes n i ws c m e =
    let p = part_takes (count_of n i) i ws c m e in
    let k = count_is n i p.item c p.made in
    record { front = p.front ∙ ap (λ (x : Item). item_word x ∷ m.words) k.0; count = k.1; place = p.place }

-- ---- the raw words

cell_by : (b : Bool) (i w c : ℕ) (l m : Left) → (cond b (Ok w) (Err (At NoCell i)) >>= beside l) ≡ Ok (c, m) → (b ≡ true) × (l ≡ m)
cell_by true i w c l m e =
    let one : ℕ × Left = (w, l) in
    let two : ℕ × Left = (c, m) in
    let p : one ≡ two = cc in
    (refl, ap (λ (x : ℕ × Left). x.1) p)
cell_by false i w c l m e = absurd cc

pub cell_takes : (k : CellKind) (i w : ℕ) (ws : List ℕ) (c : ℕ) (m : Left) → cell_due k (from i (w ∷ ws)) ≡ Ok (c, m) → (is_cell k w ≡ true) × (from (i + 1) ws ≡ m)
unfolding cell_due word_due
cell_takes k i w ws c m e = cell_by (is_cell k w) i w c (from (i + 1) ws) m e

pub cell_none : (k : CellKind) (i : ℕ) (c : ℕ) (m : Left) → cell_due k (from i []) ≡ Ok (c, m) → ⊥
unfolding cell_due word_due
cell_none k i c m e = cc

-- words of 32 bits
abbrev pub AreWords : List ℕ → Type 0
AreWords ws = AllByRecursion (λ w. w < 2 ^ 32) ws

pub record TheRaws (k : CellKind) (n i : ℕ) (ws : List ℕ) (m : Left) : Type 0 where
  pub front : ws ≡ take n ws ++ m.words
  pub count : length (take n ws) ≡ n
  pub raws : AllByRecursion (IsRaw k) (take n ws)
  pub rest : AreWords m.words
  pub place : m.place ≡ i + n

pub raws_takes : (k : CellKind) (n i : ℕ) (ws : List ℕ) (m : Left) → AreWords ws → raws_due k n (from i ws) ≡ Ok m → TheRaws k n i ws m
unfolding raws_due
raws_takes k zero i ws m fit e =
    subst (TheRaws k zero i ws) (ok_is (from i ws) m e) (record { front = refl; count = refl; raws = tt; rest = fit; place = omega arith })
raws_takes k (suc n) i [] m fit e =
    let goes : ℕ × Left → Result Left StripFault = λ c. raws_due k n c.1 in
    let b = bind_ok (cell_due k (from i [])) goes m e in
    absurd (cell_none k i b.0.0 b.0.1 b.1)
raws_takes k (suc n) i (w ∷ ws) m fit e =
    let goes : ℕ × Left → Result Left StripFault = λ c. raws_due k n c.1 in
    let b = bind_ok (cell_due k (from i (w ∷ ws))) goes m e in
    let c = cell_takes k i w ws b.0.0 b.0.1 b.1 in
    let next : raws_due k n (from (i + 1) ws) ≡ Ok m = ap (raws_due k n) c.1 ∙ b.2 in
    let t = raws_takes k n (i + 1) ws m fit.1 next in
    record {
      front = ap (λ (x : List ℕ). w ∷ x) t.front;
      count = ap suc t.count;
      raws = ((fit.0, c.0), t.raws);
      rest = t.rest;
      place = omega (arith, t.place);
    }

-- as many words went as were read
pub raws_there : (k : CellKind) (n i : ℕ) (ws : List ℕ) (m : Left) → raws_due k n (from i ws) ≡ Ok m → n + length m.words ≡ length ws
unfolding raws_due
raws_there k zero i ws m e = omega (arith, ap (λ (l : Left). length l.words) (ok_is (from i ws) m e))
raws_there k (suc n) i [] m e =
    let goes : ℕ × Left → Result Left StripFault = λ c. raws_due k n c.1 in
    let b = bind_ok (cell_due k (from i [])) goes m e in
    absurd (cell_none k i b.0.0 b.0.1 b.1)
raws_there k (suc n) i (w ∷ ws) m e =
    let goes : ℕ × Left → Result Left StripFault = λ c. raws_due k n c.1 in
    let b = bind_ok (cell_due k (from i (w ∷ ws))) goes m e in
    let c = cell_takes k i w ws b.0.0 b.0.1 b.1 in
    let next : raws_due k n (from (i + 1) ws) ≡ Ok m = ap (raws_due k n) c.1 ∙ b.2 in
    omega (arith, raws_there k n (i + 1) ws m next)

-- ---- the window

pub corner_is : (i : ℕ) (x : Item) (c : ℕ × ℕ) → corner_of i x ≡ Ok c → x ≡ Corner c.0 c.1
corner_is i (Head k w h) c e = absurd cc
corner_is i (Cells n) c e = absurd cc
corner_is i (Corner a r) c e = let one : ℕ × ℕ = (a, r) in let p : one ≡ c = cc in ap (λ (q : ℕ × ℕ). Corner q.0 q.1) p
corner_is i (Extent w h) c e = absurd cc
corner_is i (Point p) c e = absurd cc
corner_is i (Call q) c e = absurd cc
corner_is i End c e = absurd cc

extent_is : (i : ℕ) (x : Item) (c : ℕ × ℕ) → extent_of i x ≡ Ok c → x ≡ Extent c.0 c.1
extent_is i (Head k w h) c e = absurd cc
extent_is i (Cells n) c e = absurd cc
extent_is i (Corner a r) c e = absurd cc
extent_is i (Extent w h) c e = let one : ℕ × ℕ = (w, h) in let p : one ≡ c = cc in ap (λ (q : ℕ × ℕ). Extent q.0 q.1) p
extent_is i (Point p) c e = absurd cc
extent_is i (Call q) c e = absurd cc
extent_is i End c e = absurd cc

pub record TheWindow (i : ℕ) (ws : List ℕ) (f : Option Rectangle) (m : Left) : Type 0 where
  pub front : ws ≡ window_words f ++ m.words
  pub fits : IfSome f (λ g. Fits (corner g) × Fits (extent g))
  pub place : m.place ≡ i + length (window_words f)

-- a frame of two pairs
abbrev pub framed : ℕ × ℕ → ℕ × ℕ → Rectangle
framed c e = record { left = c.0; top = c.1; size = record { width = e.0; height = e.1 } }

frame_front : (ws v m : List ℕ) (x y : Item) (c e : ℕ × ℕ) → ws ≡ item_word x ∷ v → x ≡ Corner c.0 c.1 → v ≡ item_word y ∷ m → y ≡ Extent e.0 e.1
    → ws ≡ window_words (Some (framed c e)) ++ m
frame_front ws v m x y c e front corner-x rest extent-y =
    let first : ws ≡ item_word (Corner c.0 c.1) ∷ v = front ∙ ap (λ (z : Item). item_word z ∷ v) corner-x in
    let second : v ≡ item_word (Extent e.0 e.1) ∷ m = rest ∙ ap (λ (z : Item). item_word z ∷ m) extent-y in
    first ∙ ap (λ (u : List ℕ). item_word (Corner c.0 c.1) ∷ u) second

frame_fits : (x y : Item) (c e : ℕ × ℕ) → Fits x → x ≡ Corner c.0 c.1 → Fits y → y ≡ Extent e.0 e.1 → Fits (Corner c.0 c.1) × Fits (Extent e.0 e.1)
frame_fits x y c e fx corner-x fy extent-y = (subst Fits corner-x fx, subst Fits extent-y fy)

window_of : (i : ℕ) (ws : List ℕ) (one two : Rectangle × Left) → one ≡ two → TheWindow i ws (Some one.0) one.1 → TheWindow i ws (Some two.0) two.1
window_of i ws one two p t = subst (λ (q : Rectangle × Left). TheWindow i ws (Some q.0) q.1) p t

-- what is still to be done behind each part of a window
abbrev past_frame : ℕ × ℕ → Item × Left → ℕ × ℕ → Result (Rectangle × Left) StripFault
past_frame c y z = Ok (framed c z, y.1)

abbrev pub past_extent : Left → ℕ × ℕ → Item × Left → Result (Rectangle × Left) StripFault
past_extent x c y = extent_of x.place y.0 >>= past_frame c y

abbrev past_due : Left → ℕ × ℕ → Result (Rectangle × Left) StripFault
past_due x c = item_due x >>= past_extent x c

abbrev pub past_corner : ℕ → Item × Left → Result (Rectangle × Left) StripFault
past_corner i x = corner_of i x.0 >>= past_due x.1

frame_takes : (i : ℕ) (ws : List ℕ) (f : Rectangle) (m : Left) → frame_due (from i ws) ≡ Ok (f, m) → TheWindow i ws (Some f) m
unfolding frame_due
frame_takes i ws f m e =
    let a = bind_ok (item_due (from i ws)) (past_corner i) (f, m) e in
    let b = bind_ok (corner_of i a.0.0) (past_due a.0.1) (f, m) a.2 in
    let c = bind_ok (item_due a.0.1) (past_extent a.0.1 b.0) (f, m) b.2 in
    let d = bind_ok (extent_of a.0.1.place c.0.0) (past_frame b.0 c.0) (f, m) c.2 in
    let one : Rectangle × Left = (framed b.0 d.0, c.0.1) in
    let p = ok_is one (f, m) d.2 in
    let t = item_spelled i ws a.0.0 a.0.1 a.1 in
    let u = item_spelled a.0.1.place a.0.1.words c.0.0 c.0.1 c.1 in
    let x = corner_is i a.0.0 b.0 b.1 in
    let y = extent_is a.0.1.place c.0.0 d.0 d.1 in
    let made : TheWindow i ws (Some (framed b.0 d.0)) c.0.1 = record {
      front = frame_front ws a.0.1.words c.0.1.words a.0.0 c.0.0 b.0 d.0 t.0 x u.0 y;
      fits = frame_fits a.0.0 c.0.0 b.0 d.0 t.2 x u.2 y;
      place = omega (arith, t.1, u.1);
    } in
    window_of i ws one (f, m) p made

pub window_takes : (i : ℕ) (ws : List ℕ) (f : Option Rectangle) (m : Left) → window_due (from i ws) ≡ Ok (f, m) → TheWindow i ws f m
unfolding window_due
window_takes i ws f m e =
    let some : Rectangle × Left → Result (Option Rectangle × Left) StripFault = λ g. Ok (Some g.0, g.1) in
    let none : Option Rectangle × Left = (None, from i ws) in
    elim (chosen (begins ws) (frame_due (from i ws) >>= some) (Ok none) (Ok (f, m)) e) [
      | inl p ↦ (
          let b = bind_ok (frame_due (from i ws)) some (f, m) p.1 in
          let one : Option Rectangle × Left = (Some b.0.0, b.0.1) in
          subst (λ (q : Option Rectangle × Left). TheWindow i ws q.0 q.1) (ok_is one (f, m) b.2) (frame_takes i ws b.0.0 b.0.1 b.1))
      | inr p ↦ (
          let made : TheWindow i ws None (from i ws) = record { front = refl; fits = tt; place = omega arith } in
          subst (λ (q : Option Rectangle × Left). TheWindow i ws q.0 q.1) (ok_is none (f, m) p.1) made)
    ]

-- ---- the steps

-- a word is a step, or the end
abbrev pub IsStep : ℕ → Bool → Type 0
IsStep w true = (item_word (step_item (step_of w)) ≡ w) × Fits (step_item (step_of w))
IsStep w false = item_word End ≡ w

sign_is : (b c : Bool) → ◌≡◌ {A = Result Bool StripFault} (Ok b) (Ok c) → b ≡ c
sign_is b c e = cc

pub step_is : (i w : ℕ) (x : Item) (b : Bool) → item_of w ≡ Some x → is_step i x ≡ Ok b → IsStep w b
step_is i w (Head k v h) b e s = absurd cc
step_is i w (Cells n) b e s = absurd cc
step_is i w (Corner c r) b e s = absurd cc
step_is i w (Extent v h) b e s = absurd cc
step_is i w (Point p) b e s = subst (IsStep w) (sign_is true b s) (rw e (item_takes w (Point p) e))
step_is i w (Call q) b e s = subst (IsStep w) (sign_is true b s) (rw e (item_takes w (Call q) e))
step_is i w End b e s = subst (IsStep w) (sign_is false b s) (item_takes w End e).0

pub record TheSteps (i : ℕ) (ws : List ℕ) (n : ℕ) (m : Left) : Type 0 where
  pub front : ws ≡ step_words (map step_of (take n ws)) ++ item_word End ∷ m.words
  pub fits : AllByRecursion (λ s. Fits (step_item s)) (map step_of (take n ws))
  pub place : m.place ≡ i + length (step_words (map step_of (take n ws))) + 1

-- the number of steps, seen from the first of them
one_step : (i w : ℕ) (ws : List ℕ) (n : ℕ) (m : Left) → IsStep w true → TheSteps (i + 1) ws n m → TheSteps i (w ∷ ws) (n + 1) m
one_step i w ws n m s t = rw add-one (record {
  front = ap (λ (x : ℕ). x ∷ ws) (sym s.0) ∙ ap (λ (v : List ℕ). item_word (step_item (step_of w)) ∷ v) t.front;
  fits = (s.1, t.fits);
  place = omega (arith, t.place);
})

steps_by : (i w : ℕ) (ws : List ℕ) (b : Bool) (n : ℕ) (m : Left) → IsStep w b → cond b (steps_from (i + 1) ws >>= one_more) (Ok (0, from (i + 1) ws)) ≡ Ok (n, m)
    → ((k : ℕ) (l : Left) → steps_from (i + 1) ws ≡ Ok (k, l) → TheSteps (i + 1) ws k l) → TheSteps i (w ∷ ws) n m
steps_by i w ws true n m s e more =
    let p = bind_ok (steps_from (i + 1) ws) one_more (n, m) e in
    let one : ℕ × Left = (p.0.0 + 1, p.0.1) in
    subst (λ (q : ℕ × Left). TheSteps i (w ∷ ws) q.0 q.1) (ok_is one (n, m) p.2) (one_step i w ws p.0.0 p.0.1 s (more p.0.0 p.0.1 p.1))
steps_by i w ws false n m s e more =
    let one : ℕ × Left = (0, from (i + 1) ws) in
    let made : TheSteps i (w ∷ ws) 0 (from (i + 1) ws) = record { front = ap (λ (x : ℕ). x ∷ ws) (sym s); fits = tt; place = omega arith } in
    subst (λ (q : ℕ × Left). TheSteps i (w ∷ ws) q.0 q.1) (ok_is one (n, m) e) made

pub steps_take : (i : ℕ) (ws : List ℕ) (n : ℕ) (m : Left) → steps_from i ws ≡ Ok (n, m) → TheSteps i ws n m
steps_take i [] n m e = absurd (let s = steps_none i in cc)
steps_take i (w ∷ ws) n m e =
    let goes : Bool → Result (ℕ × Left) StripFault = λ b. cond b (steps_from (i + 1) ws >>= one_more) (Ok (0, from (i + 1) ws)) in
    let b = bind_ok (step_at i w) goes (n, m) (sym (steps_first i w ws) ∙ e) in
    let x = bind_ok (said i (item_of w)) (is_step i) b.0 b.1 in
    let s = step_is i w x.0 b.0 (said_is i (item_of w) x.0 x.1) x.2 in
    steps_by i w ws b.0 n m s b.2 (λ k l h. steps_take (i + 1) ws k l h)
