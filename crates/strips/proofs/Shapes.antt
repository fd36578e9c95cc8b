-- The width and the height of a head have twelve bits each.
use Rattle.std.proofs.Common.{◌≡◌, ℕ, ◌+◌, ◌^◌, ◌<◌, List, [], ◌∷◌, Option, Some, None, Result, Ok, Err, refl, sym, ap, subst}
use Rattle.std.specs.Prelude.{IfOk}
use Rattle.strips.specs.Items.{item_of, Fits}
use Rattle.strips.specs.Reading.{Left, from, ◌>>=◌, said, word_due, item_due, shape_of}
use Rattle.strips.specs.declared.item.Item.{Item}
use Rattle.strips.specs.declared.item.Item.TheVariants.{Head, Cells, Corner, Extent, Point, Call, End}
use Rattle.strips.specs.declared.parts.Shape.{Shape}
use Rattle.strips.specs.declared.fault.StripFault.{StripFault}
use Rattle.strips.proofs.Items.{item_takes}

-- the value of a step that was not refused
pub bind_ok : {A B : Type 0} (r : Result A StripFault) (f : A → Result B StripFault) (y : B) → (r >>= f) ≡ Ok y → (x : A) × (r ≡ Ok x) × (f x ≡ Ok y)
bind_ok (Ok x) f y e = (x, refl, e)
bind_ok (Err d) f y e = absurd cc

pub ok_is : {A : Type 0} (x y : A) → ◌≡◌ {A = Result A StripFault} (Ok x) (Ok y) → x ≡ y
ok_is x y e = cc

-- what was said is what the word says
pub said_is : (i : ℕ) (o : Option Item) (x : Item) → said i o ≡ Ok x → o ≡ Some x
said_is i (Some y) x e = ap (λ (z : Item). Some z) cc
said_is i None x e = absurd cc

-- the item at the front is what the first word says
pub item_first : (i : ℕ) (ws : List ℕ) (x : Item) (m : Left) → item_due (from i ws) ≡ Ok (x, m) → (w : ℕ) × (ws ≡ w ∷ m.words) × (m.place ≡ i + 1) × (item_of w ≡ Some x)
unfolding item_due word_due
item_first i [] x m e = absurd cc
item_first i (w ∷ ws) x m e =
    let rest : Item → Result (Item × Left) StripFault = λ y. Ok (y, from (i + 1) ws) in
    let b = bind_ok (said i (item_of w)) rest (x, m) e in
    let both : Item × Left = (b.0, from (i + 1) ws) in
    let p = ok_is both (x, m) b.2 in
    subst (λ (y : Item × Left). (v : ℕ) × (w ∷ ws ≡ v ∷ y.1.words) × (y.1.place ≡ i + 1) × (item_of v ≡ Some y.0)) p (w, refl, refl, said_is i (item_of w) b.0 b.1)

-- an item that is a head with a kind of cell
pub shape_is : (i : ℕ) (x : Item) (s : Shape) → shape_of i x ≡ Ok s → x ≡ Head (Ok s.kind) s.width s.height
shape_is i (Head (Ok k) w h) s e = ap (λ (t : Shape). Head (Ok t.kind) t.width t.height) (ok_is (record { kind = k; width = w; height = h }) s e)
shape_is i (Head (Err n) w h) s e = absurd cc
shape_is i (Cells n) s e = absurd cc
shape_is i (Corner c r) s e = absurd cc
shape_is i (Extent w h) s e = absurd cc
shape_is i (Point p) s e = absurd cc
shape_is i (Call q) s e = absurd cc
shape_is i End s e = absurd cc

-- the shape that was read, if one was
pub shape_within : (l m : Left) (i : ℕ) (x : Item) (r : Result Shape StripFault) → item_due l ≡ Ok (x, m) → r ≡ shape_of i x → IfOk r (λ s. (s.width < 2 ^ 12) × (s.height < 2 ^ 12))
shape_within l m i x (Ok s) e h =
    let t = item_first l.place l.words x m e in
    let k = shape_is i x s (sym h) in
    let fits = (item_takes t.0 x t.3).1 in
    let head = subst Fits k fits in
    (head.1, head.2)
shape_within l m i x (Err f) e h = tt
