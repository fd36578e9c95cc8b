-- What is spelled is read: each part of the reading takes just the words of its part.
use Rattle.std.proofs.Common.{◌≡◌, ℕ, suc, ◌+◌, ◌*◌, ◌/◌, ◌^◌, ◌<◌, ◌≤◌, Bool, true, false, cond, List, [], ◌∷◌, ◌++◌, length, map, take, Option, Some, None, Result, Ok, Err, refl, sym, ap, ◌∙◌, arith}
use Rattle.std.specs.Prelude.{IfSome}
use Rattle.std.specs.List.{AllByRecursion}
use Rattle.std.proofs.lemmas.Bool.{eq-eqb}
use Rattle.std.proofs.lemmas.List.{take_at}
use Rattle.std.proofs.Math.Nat.{mul-le-mul}
use Rattle.strips.specs.Kinds.{is_cell}
use Rattle.strips.specs.Items.{filter_number, item_word, Fits}
use Rattle.strips.specs.Jobs.{Job, step_item, corner, extent, window_words, step_words, step_of, IsRaw, Sound, job_words}
use Rattle.strips.specs.Reading.{Left, from, ◌>>=◌, word_due, item_due, shape_of, shape_due, count_of, count_due, cell_due, raws_due, frame_due, begins, window_due, one_more, steps_from, job_from}
use Rattle.strips.specs.declared.kind.CellKind.{CellKind}
use Rattle.strips.specs.declared.item.Item.{Item}
use Rattle.strips.specs.declared.item.Item.TheVariants.{Head, Cells, Point, Call, End}
use Rattle.strips.specs.declared.parts.Shape.{Shape}
use Rattle.sheets.specs.declared.window.Rectangle.{Rectangle}
use Rattle.strips.specs.declared.parts.Step.{Step}
use Rattle.strips.specs.declared.parts.Step.TheVariants as steps
use Rattle.strips.specs.declared.fault.StripFault.{StripFault}
use Rattle.strips.specs.declared.fault.StripFault.TheVariants.{At}
use Rattle.strips.specs.declared.fault.Ground.TheVariants.{NoCell, WrongCount}
use Rattle.strips.proofs.Items.{item_again, filter_below}
use Rattle.strips.proofs.Loops.{beside, step_at, steps_first}
use Rattle.strips.proofs.Taken.{past_corner, past_extent}
use Rattle.strips.proofs.Passed.{past_steps, past_window, past_raws, past_count, past_shape}

-- the item of a word is read again
item_due_again : (i : ℕ) (x : Item) (ws : List ℕ) → Fits x → item_due (from i (item_word x ∷ ws)) ≡ Ok (x, from (i + 1) ws)
unfolding item_due word_due
item_due_again i x ws fits = rw (item_again x fits) refl

-- what f makes of it
part_again : {A : Type 0} (f : Item → Result A StripFault) (i : ℕ) (x : Item) (ws : List ℕ) (y : A) → Fits x → f x ≡ Ok y → (item_due (from i (item_word x ∷ ws)) >>= λ (z : Item × Left). f z.0 >>= beside z.1) ≡ Ok (y, from (i + 1) ws)
part_again {A} f i x ws y fits made =
    let rest : Item × Left → Result (A × Left) StripFault = λ z. f z.0 >>= beside z.1 in
    ap (λ (r : Result (Item × Left) StripFault). r >>= rest) (item_due_again i x ws fits)
    ∙ ap (λ (r : Result A StripFault). r >>= beside (from (i + 1) ws)) made

-- ---- the head and the count

pub shape_again : (s : Shape) (ws : List ℕ) → Fits (Head (Ok s.kind) s.width s.height) → shape_due (from 0 (item_word (Head (Ok s.kind) s.width s.height) ∷ ws)) ≡ Ok (s, from 1 ws)
unfolding shape_due
shape_again s ws fits =
    part_again (shape_of 0) 0 (Head (Ok s.kind) s.width s.height) ws s fits refl

pub count_again : (n i : ℕ) (ws : List ℕ) → n < 2 ^ 28 → count_due n (from i (item_word (Cells n) ∷ ws)) ≡ Ok (n, from (i + 1) ws)
unfolding count_due
count_again n i ws lt =
    part_again (count_of n i) i (Cells n) ws n lt
    (ap (λ (b : Bool). cond b (Ok n) (Err (At WrongCount i))) (eq-eqb n n refl))

-- ---- the raw words

cell_again : (k : CellKind) (i w : ℕ) (ws : List ℕ) → is_cell k w ≡ true → cell_due k (from i (w ∷ ws)) ≡ Ok (w, from (i + 1) ws)
unfolding cell_due word_due
cell_again k i w ws e =
    ap (λ (b : Bool). ◌>>=◌ {A = ℕ} (cond b (Ok w) (Err (At NoCell i))) (beside (from (i + 1) ws))) e

pub raws_again : (k : CellKind) (rs ws : List ℕ) (i j : ℕ) → AllByRecursion (IsRaw k) rs → j ≡ i + length rs → raws_due k (length rs) (from i (rs ++ ws)) ≡ Ok (from j ws)
unfolding raws_due
raws_again k [] ws i j fits e = ap (λ (n : ℕ). Ok (from n ws)) (omega arith)
raws_again k (r ∷ rs) ws i j fits e =
    let goes : ℕ × Left → Result Left StripFault = λ c. raws_due k (length rs) c.1 in
    ap (λ (x : Result (ℕ × Left) StripFault). x >>= goes) (cell_again k i r (rs ++ ws) fits.0.1)
    ∙ raws_again k rs ws (i + 1) j fits.1 (omega arith)

-- ---- the window

frame_again : (f : Rectangle) (i : ℕ) (ws : List ℕ) → Fits (corner f) → Fits (extent f) → frame_due (from i (window_words (Some f) ++ ws)) ≡ Ok (f, from (i + 1 + 1) ws)
unfolding frame_due
frame_again f i ws hc he =
    let rest = item_word (extent f) ∷ ws in
    ap (λ (r : Result (Item × Left) StripFault). r >>= past_corner i) (item_due_again i (corner f) rest hc)
    ∙ ap (λ (r : Result (Item × Left) StripFault). r >>= past_extent (from (i + 1) rest) (f.left, f.top)) (item_due_again (i + 1) (extent f) ws he)

begins_corner : (f : Rectangle) (ws : List ℕ) → Fits (corner f) → begins (item_word (corner f) ∷ ws) ≡ true
begins_corner f ws fits =
    let e : (3 * 2 ^ 28 + f.left * 2 ^ 12 + f.top) / 2 ^ 28 ≡ 3 = omega (arith, fits.0, fits.1) in
    rw e refl

pub window_again : (f : Option Rectangle) (ws : List ℕ) (i j : ℕ) → IfSome f (λ g. Fits (corner g) × Fits (extent g)) → begins ws ≡ false → j ≡ i + length (window_words f) → window_due (from i (window_words f ++ ws)) ≡ Ok (f, from j ws)
unfolding window_due
window_again None ws i j fits none e = rw none (ap (λ (n : ℕ). Ok (None, from n ws)) (omega arith))
window_again (Some f) ws i j fits none e =
    let some : Rectangle × Left → Result (Option Rectangle × Left) StripFault = λ g. Ok (Some g.0, g.1) in
    let p : i + 1 + 1 ≡ j = omega arith in
    rw (begins_corner f (item_word (extent f) ∷ ws) fits.0)
    (ap (λ (r : Result (Rectangle × Left) StripFault). r >>= some) (frame_again f i ws fits.0 fits.1) ∙ ap (λ (n : ℕ). Ok (Some f, from n ws)) p)

-- ---- the steps

step_again : (i : ℕ) (s : Step) → Fits (step_item s) → step_at i (item_word (step_item s)) ≡ Ok true
step_again i (steps.Point p) fits = rw (item_again (Point p) fits) refl
step_again i (steps.Call q) fits = rw (item_again (Call q) fits) refl

end_again : (i : ℕ) → step_at i (item_word End) ≡ Ok false
end_again i = rw (item_again End tt) refl

step_back : (s : Step) → Fits (step_item s) → step_of (item_word (step_item s)) ≡ s
step_back (steps.Point p) fits = rw (item_again (Point p) fits) refl
step_back (steps.Call q) fits = rw (item_again (Call q) fits) refl

pub steps_again : (ss : List Step) (ws : List ℕ) (i j : ℕ) → AllByRecursion (λ s. Fits (step_item s)) ss → j ≡ i + length ss + 1 → steps_from i (step_words ss ++ item_word End ∷ ws) ≡ Ok (length ss, from j ws)
steps_again [] ws i j fits e =
    let goes : Bool → Result (ℕ × Left) StripFault = λ b. cond b (steps_from (i + 1) ws >>= one_more) (Ok (0, from (i + 1) ws)) in
    steps_first i (item_word End) ws
    ∙ ap (λ (r : Result Bool StripFault). r >>= goes) (end_again i)
    ∙ ap (λ (n : ℕ). Ok (0, from n ws)) (omega arith)
steps_again (s ∷ ss) ws i j fits e =
    let rest = step_words ss ++ item_word End ∷ ws in
    let goes : Bool → Result (ℕ × Left) StripFault = λ b. cond b (steps_from (i + 1) rest >>= one_more) (Ok (0, from (i + 1) rest)) in
    let n : length ss + 1 ≡ suc (length ss) = omega arith in
    steps_first i (item_word (step_item s)) rest
    ∙ ap (λ (r : Result Bool StripFault). r >>= goes) (step_again i s fits.0)
    ∙ ap (λ (r : Result (ℕ × Left) StripFault). r >>= one_more) (steps_again ss ws (i + 1) j fits.1 (omega arith))
    ∙ ap (λ (k : ℕ). Ok (k, from j ws)) n

steps_back : (ss : List Step) (ws : List ℕ) → AllByRecursion (λ s. Fits (step_item s)) ss → map step_of (take (length ss) (step_words ss ++ ws)) ≡ ss
steps_back [] ws fits = refl
steps_back (s ∷ ss) ws fits =
    ap (λ (x : Step). x ∷ map step_of (take (length ss) (step_words ss ++ ws))) (step_back s fits.0)
    ∙ ap (λ (v : List Step). s ∷ v) (steps_back ss ws fits.1)

-- no corner begins a step, or the end
pub begins_steps : (ss : List Step) (ws : List ℕ) → AllByRecursion (λ s. Fits (step_item s)) ss → begins (step_words ss ++ item_word End ∷ ws) ≡ false
begins_steps [] ws fits = refl
begins_steps (steps.Point p ∷ ss) ws fits =
    let e : (5 * 2 ^ 28 + p.u * 2 ^ 5 + p.v) / 2 ^ 28 ≡ 5 = omega (arith, fits.0.0, fits.0.1) in
    rw e refl
begins_steps (steps.Call q ∷ ss) ws fits =
    let e : (6 * 2 ^ 28 + filter_number q) / 2 ^ 28 ≡ 6 = omega (arith, filter_below q) in
    rw e refl

-- ---- the whole

-- a width and a height of twelve bits each
pub count_below : (w h : ℕ) → w < 2 ^ 12 → h < 2 ^ 12 → w * h < 2 ^ 28
count_below w h hw hh =
    let a : w ≤ 4095 = omega arith in
    let b : h ≤ 4095 = omega arith in
    omega (arith, mul-le-mul a b)

pub job_again : (j : Job) → Sound j → job_from 0 (job_words j) ≡ Ok j
unfolding job_from job_words
job_again j t =
    let n = j.width * j.height in
    let s : Shape = record { kind = j.kind; width = j.width; height = j.height } in
    let ws4 = step_words j.steps ++ item_word End ∷ [] in
    let ws3 = window_words j.window ++ ws4 in
    let ws2 = j.raws ++ ws3 in
    let ws1 = item_word (Cells n) ∷ ws2 in
    let p3 = 2 + length j.raws in
    let p4 = p3 + length (window_words j.window) in
    let p5 = p4 + length j.steps + 1 in
    let few : n < 2 ^ 28 = count_below j.width j.height t.head.1 t.head.2 in
    let raws : raws_due j.kind n (from 2 ws2) ≡ Ok (from p3 ws3) = ap (λ (k : ℕ). raws_due j.kind k (from 2 ws2)) (sym t.count) ∙ raws_again j.kind j.raws ws3 2 p3 t.raws refl in
    let cells : take n ws2 ≡ j.raws = take_at j.raws ws3 n t.count in
    let done : List ℕ → List Step → Job = λ rs ss. record { kind = j.kind; width = j.width; height = j.height; raws = rs; window = j.window; steps = ss } in
    ap (λ (r : Result (Shape × Left) StripFault). r >>= past_shape 0) (shape_again s ws1 t.head)
    ∙ ap (λ (r : Result (ℕ × Left) StripFault). r >>= past_count 0 s) (count_again n 1 ws2 few)
    ∙ ap (λ (r : Result Left StripFault). r >>= past_raws 0 s (n, from 2 ws2)) raws
    ∙ ap (λ (r : Result (Option Rectangle × Left) StripFault). r >>= past_window 0 s (n, from 2 ws2)) (window_again j.window ws4 p3 p4 t.window (begins_steps j.steps [] t.steps) refl)
    ∙ ap (λ (r : Result (ℕ × Left) StripFault). r >>= past_steps 0 s (n, from 2 ws2) (j.window, from p4 ws4)) (steps_again j.steps [] p4 p5 t.steps refl)
    ∙ ap (λ (rs : List ℕ). Ok (done rs (map step_of (take (length j.steps) ws4)))) cells
    ∙ ap (λ (ss : List Step). Ok (done j.raws ss)) (steps_back j.steps (item_word End ∷ []) t.steps)
