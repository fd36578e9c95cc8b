-- Raw words and steps, taken one after the other.
use Rattle.std.proofs.Common.{◌≡◌, ℕ, suc, ◌+◌, ◌-◌, ◌<◌, ◌≤◌, Bool, true, false, cond, List, [], ◌∷◌, length, Option, Some, None, Result, Ok, Err, refl, sym, ap, ◌∙◌, arith}
use Rattle.strips.specs.Items.{item_of}
use Rattle.strips.specs.Reading.{Left, from, ◌>>=◌, said, is_step, word_due, item_due, step_due, steps_from, one_more, cell_due, raws_due}
use Rattle.strips.specs.declared.kind.CellKind.{CellKind}
use Rattle.strips.specs.declared.item.Item.{Item}
use Rattle.strips.specs.declared.fault.StripFault.{StripFault}
use Rattle.strips.specs.declared.fault.StripFault.TheVariants.{At}
use Rattle.strips.specs.declared.fault.Ground.TheVariants.{CutShort}

-- ---- raw words

pub raws_goes : (k : CellKind) (n i : ℕ) (l m : Left) (c : ℕ) (total : Result Left StripFault) → i < n → cell_due k l ≡ Ok (c, m) → raws_due k (n - i) l ≡ total → raws_due k (n - (i + 1)) m ≡ total
unfolding raws_due
raws_goes k n i l m c total lt taken so_far =
    let e : n - i ≡ suc (n - (i + 1)) = omega arith in
    let one : raws_due k (n - i) l ≡ raws_due k (n - (i + 1)) m = rw (e, taken) refl in
    sym one ∙ so_far

pub raws_refused : (k : CellKind) (n i : ℕ) (l : Left) (f : StripFault) (total : Result Left StripFault) → i < n → cell_due k l ≡ Err f → raws_due k (n - i) l ≡ total → total ≡ Err f
unfolding raws_due
raws_refused k n i l f total lt refused so_far =
    let e : n - i ≡ suc (n - (i + 1)) = omega arith in
    let one : raws_due k (n - i) l ≡ Err f = rw (e, refused) refl in
    sym so_far ∙ one

pub raws_done : (k : CellKind) (n i : ℕ) (l : Left) (total : Result Left StripFault) → n ≤ i → raws_due k (n - i) l ≡ total → total ≡ Ok l
unfolding raws_due
raws_done k n i l total le so_far =
    let e : n - i ≡ 0 = omega arith in
    let one : raws_due k (n - i) l ≡ Ok l = rw e refl in
    sym so_far ∙ one

-- ---- steps

-- whether a word is a step
abbrev pub step_at : ℕ → ℕ → Result Bool StripFault
step_at i w = said i (item_of w) >>= is_step i

-- a part, and what is left behind it
abbrev pub beside : {A : Type 0} → Left → A → Result (A × Left) StripFault
beside m a = Ok (a, m)

told_left : (i : ℕ) (o : Option Item) (m : Left) → ((said i o >>= beside m) >>= λ (x : Item × Left). is_step i x.0 >>= beside x.1) ≡ ((said i o >>= is_step i) >>= beside m)
told_left i (Some x) m = refl
told_left i None m = refl

step_first : (i w : ℕ) (ws : List ℕ) → step_due (from i (w ∷ ws)) ≡ (step_at i w >>= beside (from (i + 1) ws))
unfolding step_due item_due word_due
step_first i w ws = told_left i (item_of w) (from (i + 1) ws)

-- what follows a sign, with what is left or without
signed : {A : Type 0} (r : Result Bool StripFault) (m : Left) (f : Bool → Left → Result A StripFault) → ((r >>= beside m) >>= λ b. f b.0 b.1) ≡ (r >>= λ b. f b m)
signed (Ok b) m f = refl
signed (Err e) m f = refl

pub steps_first : (i w : ℕ) (ws : List ℕ) → steps_from i (w ∷ ws) ≡ (step_at i w >>= λ b. cond b (steps_from (i + 1) ws >>= one_more) (Ok (0, from (i + 1) ws)))
unfolding steps_from
steps_first i w ws =
    let goes : Bool → Left → Result (ℕ × Left) StripFault = λ b m. cond b (steps_from (i + 1) ws >>= one_more) (Ok (0, m)) in
    ap (λ (r : Result (Bool × Left) StripFault). r >>= λ b. goes b.0 b.1) (step_first i w ws)
    ∙ signed (step_at i w) (from (i + 1) ws) goes

step_none : (i : ℕ) → step_due (from i []) ≡ Err (At CutShort i)
unfolding step_due item_due word_due
step_none i = refl

pub steps_none : (i : ℕ) → steps_from i [] ≡ Err (At CutShort i)
unfolding steps_from
steps_none i = refl

-- what a taken step is, and what is left behind it
kept : (r : Result Bool StripFault) (b : Bool) (m n : Left) → (r >>= beside m) ≡ Ok (b, n) → (r ≡ Ok b) × (m ≡ n)
kept (Ok a) b m n e =
    let one : Bool × Left = (a, m) in
    let two : Bool × Left = (b, n) in
    let p : one ≡ two = cc in
    (ap (λ (x : Bool × Left). Ok x.0) p, ap (λ (x : Bool × Left). x.1) p)
kept (Err f) b m n e = absurd cc

pub step_shorter : (i : ℕ) (ws : List ℕ) (b : Bool) (m : Left) → step_due (from i ws) ≡ Ok (b, m) → length ws ≡ suc (length m.words)
step_shorter i [] b m e = absurd (let n = step_none i in cc)
step_shorter i (w ∷ ws) b m e =
    let k = kept (step_at i w) b (from (i + 1) ws) m (sym (step_first i w ws) ∙ e) in
    rw (← k.1) refl

-- the steps that are left, counted on from those before
abbrev pub added : ℕ → Result (ℕ × Left) StripFault → Result (ℕ × Left) StripFault
added n r = r >>= λ k. Ok (k.0 + n, k.1)

pub added_none : (r : Result (ℕ × Left) StripFault) → added 0 r ≡ r
added_none (Ok k) = ap (λ (j : ℕ). Ok (j, k.1)) (let e : k.0 + 0 ≡ k.0 = omega arith in e)
added_none (Err f) = refl

moved : (n : ℕ) (r : Result (ℕ × Left) StripFault) → added n (r >>= one_more) ≡ added (n + 1) r
moved n (Ok k) = ap (λ (j : ℕ). Ok (j, k.1)) (let e : k.0 + 1 + n ≡ k.0 + (n + 1) = omega arith in e)
moved n (Err f) = refl

pub steps_goes : (n i : ℕ) (ws : List ℕ) (m : Left) (total : Result (ℕ × Left) StripFault) → step_due (from i ws) ≡ Ok (true, m) → added n (steps_from i ws) ≡ total → added (n + 1) (steps_from m.place m.words) ≡ total
steps_goes n i [] m total e so_far = absurd (let s = step_none i in cc)
steps_goes n i (w ∷ ws) m total e so_far =
    let k = kept (step_at i w) true (from (i + 1) ws) m (sym (step_first i w ws) ∙ e) in
    let one : steps_from i (w ∷ ws) ≡ (steps_from (i + 1) ws >>= one_more) = steps_first i w ws ∙ rw k.0 refl in
    rw (← k.1) (sym (moved n (steps_from (i + 1) ws)) ∙ sym (ap (added n) one) ∙ so_far)

pub steps_done : (n i : ℕ) (ws : List ℕ) (m : Left) (total : Result (ℕ × Left) StripFault) → step_due (from i ws) ≡ Ok (false, m) → added n (steps_from i ws) ≡ total → total ≡ Ok (n, m)
steps_done n i [] m total e so_far = absurd (let s = step_none i in cc)
steps_done n i (w ∷ ws) m total e so_far =
    let k = kept (step_at i w) false (from (i + 1) ws) m (sym (step_first i w ws) ∙ e) in
    let one : steps_from i (w ∷ ws) ≡ Ok (0, from (i + 1) ws) = steps_first i w ws ∙ rw k.0 refl in
    let all : added n (steps_from i (w ∷ ws)) ≡ Ok (n, m) = rw (one, k.1) (ap (λ (j : ℕ). Ok (j, m)) (let z : 0 + n ≡ n = omega arith in z)) in
    sym so_far ∙ all

refused_by : (i : ℕ) (r : Result Bool StripFault) (m : Left) (f : StripFault) → (r >>= beside m) ≡ Err f → r ≡ Err f
refused_by i (Ok b) m f e = absurd cc
refused_by i (Err g) m f e = cc

pub steps_refused : (n i : ℕ) (ws : List ℕ) (f : StripFault) (total : Result (ℕ × Left) StripFault) → step_due (from i ws) ≡ Err f → added n (steps_from i ws) ≡ total → total ≡ Err f
steps_refused n i [] f total e so_far =
    let g : At CutShort i ≡ f = (let s = step_none i in cc) in
    let all : added n (steps_from i []) ≡ Err f = rw (steps_none i, g) refl in
    sym so_far ∙ all
steps_refused n i (w ∷ ws) f total e so_far =
    let r = refused_by i (step_at i w) (from (i + 1) ws) f (sym (step_first i w ws) ∙ e) in
    let one : steps_from i (w ∷ ws) ≡ Err f = steps_first i w ws ∙ rw r refl in
    let all : added n (steps_from i (w ∷ ws)) ≡ Err f = rw one refl in
    sym so_far ∙ all
