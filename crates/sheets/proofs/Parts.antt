-- Parts of sheets: a put on a part, and a part of a part.
use Rattle.std.proofs.Common.{◌≡◌, ℕ, zero, suc, ◌+◌, ◌-◌, min, refl, arith}
use Rattle.std.proofs.lemmas.Bool.Decides.{nat_tests}
use Rattle.sheets.specs.Sheet.{Sheet, put_at}
use Rattle.sheets.specs.declared.window.Rectangle.{Rectangle}
use Rattle.sheets.specs.Part.{overlap, unless_none, part, common}
use Rattle.sheets.specs.Wholes.{in_overlap}
use Rattle.sheets.proofs.Equal.{same_sheet}

-- a put below a place of the part is a put on the part
pub part_put : {C : Type 0} (s : Sheet C) (r : Rectangle) (x y : ℕ) (c : C) →
    part (put_at s (r.left + x) (r.top + y) c) r ≡ put_at (part s r) x y c
part_put s r x y c =
    same_sheet (part (put_at s (r.left + x) (r.top + y) c) r) (put_at (part s r) x y c) refl refl (λ i j. grind (arith, nat_tests))

un_none : (n : ℕ) → unless_none n 0 ≡ 0
un_none zero = refl
un_none (suc n) = refl

-- it makes no difference whether an empty overlap is noticed before or after the next one
un_before : (a b w h l t : ℕ) → unless_none (min h (unless_none a b - t)) (min w (unless_none b a - l)) ≡ unless_none (min h (b - t)) (min w (a - l))
un_before zero zero w h l t = refl
un_before zero (suc b) w h l t = grind (arith, un_none)
un_before (suc a) zero w h l t = grind (arith, un_none)
un_before (suc a) (suc b) w h l t = refl

overlap_overlap : (n p q w v : ℕ) → overlap (overlap n p w) q v ≡ overlap n (p + q) (overlap w q v)
overlap_overlap n p q w v = omega arith

-- the part of a part is the part of the common rectangle
pub part_part : {C : Type 0} (s : Sheet C) (r q : Rectangle) → part (part s r) q ≡ part s (common r q)
part_part s r q =
    let w = r.size.width in
    let h = r.size.height in
    let v = q.size.width in
    let k = q.size.height in
    let across = overlap_overlap s.width r.left q.left w v in
    let down = overlap_overlap s.height r.top q.top h k in
    let wide = un_before (overlap s.width r.left w) (overlap s.height r.top h) v k q.left q.top in
    let high = un_before (overlap s.height r.top h) (overlap s.width r.left w) k v q.top q.left in
    same_sheet (part (part s r) q) (part s (common r q)) (grind (arith, across, down, wide)) (grind (arith, across, down, high))
    (λ x y.
    let e : r.left + (q.left + x) ≡ r.left + q.left + x = omega arith in
    let f : r.top + (q.top + y) ≡ r.top + q.top + y = omega arith in
    let n = in_overlap w h q.left q.top v k x y in
    grind (arith, nat_tests, e, f, n))
