-- Points of the grid: which are held, and the list of them.
use Rattle.std.proofs.Common.{◌≡◌, ℕ, zero, suc, ◌+◌, ◌<◌, ◌≤◌, Bool, true, false, cond, ◌&&◌, ◌||◌, eqb, ltb, ◌⊎◌, ◌↔◌, List, [], ◌∷◌, ◌++◌, map, length, get_or, set, replicate, ℤ, pos, negsuc, ◌+ℤ◌, filter, sum_by, sym, refl, ap, ◌∙◌, subst, ap₂, subst₂, inl, inr, add-one, arith, get_or-set_other, get_or-set_same}
use Rattle.std.specs.List.{range_with_len, flat_map}
use Rattle.std.proofs.lemmas.List.Concat.{length-flat_map}
use Rattle.std.proofs.lemmas.List.Sums.{length-filter, count_by-le-length, sum_by-le-sum_by}
use Rattle.std.proofs.lemmas.List.{length-map}
use Rattle.std.proofs.lemmas.Int.{ints}
use Rattle.std.proofs.lemmas.Bool.{cases_eq, and_parts, and_from, and_right, or_cases, or_left, or_right, both_ways, ltb-true, eqb-true, eq-eqb}
use Rattle.std.proofs.lemmas.Bool.Decides.{nat_tests}
use Rattle.bits.specs.Bit.{bit, with_bit}
use Rattle.bits.proofs.SingleBits.{bit_zero, bit_with_bit}
use Rattle.masks.specs.Points.{Among, point_at, Earlier, InOrder}
use Rattle.masks.specs.Rows.{marked, marked_at, holds, columns, points, Drawn}
use Rattle.masks.specs.declared.point.Point.{Point}
use Rattle.masks.proofs.Lists.{among_left, among_last, among_push, among_some, among_kept, kept_among, among_map, map_among, among_joined, joined_among, among_counting, length_kept_push}
use Rattle.masks.proofs.Orders.{order_map, order_kept, order_weaker, order_counting, order_joined}

-- two points are the same where their offsets are
pub same_point : (p q : Point) → p.u ≡ q.u → p.v ≡ q.v → p ≡ q
same_point p q e f = λ i. record { u = e i; v = f i }

-- a held point stands in some column and row of the grid
pub held_at : (rows : List ℕ) (z w : ℤ) → marked_at rows z w ≡ true →
    (c : ℕ) × (r : ℕ) × (z ≡ pos c) × (w ≡ pos r) × (marked rows c r ≡ true)
held_at rows (pos c) (pos r) h = (c, r, refl, refl, h)
held_at rows (pos c) (negsuc r) h = absurd (both_ways false refl h)
held_at rows (negsuc c) w h = absurd (both_ways false refl h)

pub marked_column : (rows : List ℕ) (c r : ℕ) → marked rows c r ≡ true → c < 31
marked_column rows c r h = ltb-true c 31 (and_parts (ltb c 31) (ltb r 31 && bit c (get_or rows r 0)) h).0

pub marked_row : (rows : List ℕ) (c r : ℕ) → marked rows c r ≡ true → r < 31
marked_row rows c r h =
    ltb-true r 31 (and_parts (ltb r 31) (bit c (get_or rows r 0)) (and_parts (ltb c 31) (ltb r 31 && bit c (get_or rows r 0)) h).1).0

-- the point in column c and row r is held where it is marked
pub holds_marked : (rows : List ℕ) (p : Point) (c r : ℕ) → p.u +ℤ pos 15 ≡ pos c → p.v +ℤ pos 15 ≡ pos r → holds rows p ≡ marked rows c r
holds_marked rows p c r e f = ap₂ (marked_at rows) e f

pub holds_point_at : (rows : List ℕ) (c r : ℕ) → holds rows (point_at c r) ≡ marked rows c r
holds_point_at rows c r = holds_marked rows (point_at c r) c r (omega (arith, ints)) (omega (arith, ints))

-- no point is held by empty rows
zeros : (n k : ℕ) → get_or {A = ℕ} (replicate n 0) k 0 ≡ 0
zeros zero k = refl
zeros (suc n) zero = refl
zeros (suc n) (suc k) = zeros n k

empty_marked : (c r : ℕ) → marked (replicate 31 0) c r ≡ false
empty_marked c r =
    let b : bit c (get_or (replicate 31 0) r 0) ≡ false = ap (bit c) (zeros 31 r) ∙ bit_zero c in
    and_right (ltb c 31) (ltb r 31 && bit c (get_or (replicate 31 0) r 0)) (and_right (ltb r 31) (bit c (get_or (replicate 31 0) r 0)) b)

pub drawn_none : Drawn (replicate 31 0) []
drawn_none p = (
  λ h. let q = held_at (replicate 31 0) (p.u +ℤ pos 15) (p.v +ℤ pos 15) h in both_ways (marked (replicate 31 0) q.0 q.1) (empty_marked q.0 q.1) q.4,
  λ i. absurd i,
)

-- one more point in the rows
marked_set : (rows : List ℕ) (c r x y : ℕ) → length rows ≡ 31 → c < 31 → r < 31 →
    marked (set rows r (with_bit c (get_or rows r 0))) x y ≡ (marked rows x y || (eqb x c && eqb y r))
marked_set rows c r x y n hc hr =
    elim (cases_eq y r) [
      | inl e ↦
          let lt : r < length rows = omega arith in
          let s : get_or (set rows r (with_bit c (get_or rows r 0))) y 0 ≡ with_bit c (get_or rows y 0) =
          ap (λ (k : ℕ). get_or (set rows r (with_bit c (get_or rows r 0))) k 0) e
          ∙ get_or-set_same rows r (with_bit c (get_or rows r 0)) 0 lt
          ∙ ap (λ (k : ℕ). with_bit c (get_or rows k 0)) (sym e) in
          let b : bit x (get_or (set rows r (with_bit c (get_or rows r 0))) y 0) ≡ (bit x (get_or rows y 0) || eqb x c) = ap (bit x) s ∙ bit_with_bit x c (get_or rows y 0) in
          grind (arith, nat_tests)
      | inr e ↦
          let b : bit x (get_or (set rows r (with_bit c (get_or rows r 0))) y 0) ≡ bit x (get_or rows y 0) =
          ap (bit x) (get_or-set_other rows r y (with_bit c (get_or rows r 0)) 0 e) in
          grind (arith, nat_tests)
    ]

-- the point in column c and row r is one of the list's, or was already held
drawn_at : (rows : List ℕ) (c r : ℕ) (z w : ℤ) → length rows ≡ 31 → c < 31 → r < 31 →
    (marked_at (set rows r (with_bit c (get_or rows r 0))) z w ≡ true) ↔ (marked_at rows z w ≡ true) ⊎ ((z ≡ pos c) × (w ≡ pos r))
drawn_at rows c r (pos x) (pos y) n hc hr =
    let m = marked_set rows c r x y n hc hr in (
      λ h.
          elim (or_cases (marked rows x y) (eqb x c && eqb y r) (sym m ∙ h)) [
            | inl a ↦ inl a
            | inr b ↦ let e = and_parts (eqb x c) (eqb y r) b in inr (ap pos (eqb-true x c e.0), ap pos (eqb-true y r e.1))
          ],
      λ h.
          m ∙ elim h [
            | inl a ↦ or_left (marked rows x y) (eqb x c && eqb y r) a
            | inr b ↦
                let ex : x ≡ c = omega (arith, ints, b.0) in
                let ey : y ≡ r = omega (arith, ints, b.1) in
                or_right (marked rows x y) (eqb x c && eqb y r) (and_from (eqb x c) (eqb y r) (eq-eqb x c ex) (eq-eqb y r ey))
          ],
    )
drawn_at rows c r (pos x) (negsuc y) n hc hr = (λ h. absurd (both_ways false refl h), λ h. elim h [ inl a ↦ a | inr b ↦ absurd (omega (arith, ints, b.1)) ])
drawn_at rows c r (negsuc x) w n hc hr = (λ h. absurd (both_ways false refl h), λ h. elim h [ inl a ↦ a | inr b ↦ absurd (omega (arith, ints, b.0)) ])

-- a list that grows by the point in column c and row r, and rows that take it in
pub drawn_more : (rows : List ℕ) (ps : List Point) (p : Point) (c r : ℕ) → length rows ≡ 31 → c < 31 → r < 31 → p.u +ℤ pos 15 ≡ pos c → p.v +ℤ pos 15 ≡ pos r →
    Drawn rows ps → Drawn (set rows r (with_bit c (get_or rows r 0))) (ps ++ p ∷ [])
drawn_more rows ps p c r n hc hr eu ev D q =
    let at = drawn_at rows c r (q.u +ℤ pos 15) (q.v +ℤ pos 15) n hc hr in (
      λ h.
          elim (at.0 h) [
            | inl a ↦ among_left ps (p ∷ []) q ((D q).0 a)
            | inr b ↦ subst (λ (x : Point). Among (ps ++ p ∷ []) x) (same_point p q (omega (arith, ints, b.0)) (omega (arith, ints, b.1))) (among_last ps p)
          ],
      λ i.
          at.1 (elim (among_push ps p q i) [
            | inl a ↦ inl ((D q).1 a)
            | inr e ↦ inr (ap (λ (x : Point). x.u +ℤ pos 15) e ∙ eu, ap (λ (x : Point). x.v +ℤ pos 15) e ∙ ev)
          ]),
    )

-- the list of points has just the points that are held
columns_among : (rows : List ℕ) (r c n : ℕ) → marked rows c r ≡ true → c < n → Among (columns rows r n) c
unfolding columns
columns_among rows r c n h l = among_kept (λ k. marked rows k r) (range_with_len 0 n) c (among_counting n 0 c (omega arith) (omega arith)) h

among_columns : (rows : List ℕ) (r c n : ℕ) → Among (columns rows r n) c → marked rows c r ≡ true
unfolding columns
among_columns rows r c n i = (kept_among (λ k. marked rows k r) (range_with_len 0 n) c i).1

pub held_among : (rows : List ℕ) (p : Point) → holds rows p ≡ true → Among (points rows 31) p
unfolding points
held_among rows p h =
    let q = held_at rows (p.u +ℤ pos 15) (p.v +ℤ pos 15) h in
    let c = q.0 in
    let r = q.1 in
    let e : p ≡ point_at c r = same_point p (point_at c r) (omega (arith, ints, q.2)) (omega (arith, ints, q.3)) in
    subst (Among (flat_map (λ y. map (λ x. point_at x y) (columns rows y 31)) (range_with_len 0 31))) (sym e)
    (among_joined (λ y. map (λ x. point_at x y) (columns rows y 31)) (range_with_len 0 31) r (point_at c r)
    (among_counting 31 0 r (omega arith) (marked_row rows c r q.4))
    (among_map (λ x. point_at x r) (columns rows r 31) c (columns_among rows r c 31 q.4 (marked_column rows c r q.4))))

pub among_held : (rows : List ℕ) (p : Point) → Among (points rows 31) p → holds rows p ≡ true
unfolding points
among_held rows p i =
    let j = joined_among (λ y. map (λ x. point_at x y) (columns rows y 31)) (range_with_len 0 31) p i in
    let k = map_among (λ x. point_at x j.0) (columns rows j.0 31) p j.2 in
    ap (holds rows) k.2 ∙ holds_point_at rows k.0 j.0 ∙ among_columns rows j.0 k.0 31 k.1

-- so rows that were drawn from some points have some
pub drawn_some : (rows : List ℕ) (ps : List Point) → Drawn rows ps → (length ps ≡ 0 → ⊥) → points rows 31 ≡ [] → ⊥
drawn_some rows [] D n = absurd (n refl)
drawn_some rows (p ∷ ps) D n = among_some (points rows 31) p (held_among rows p ((D p).1 (inl refl)))

pub points_drawn : (rows : List ℕ) → Drawn rows (points rows 31)
points_drawn rows p = (held_among rows p, among_held rows p)

-- things that stand in the grid, row by row and each row from the left, are in the order of their places
pub grid_order : {X : Type 0} (first : X → Point) (f : ℕ → ℕ → X) → ((r c : ℕ) → first (f r c) ≡ point_at c r) → (test : ℕ → ℕ → Bool) (w n : ℕ) →
    InOrder (λ a b. Earlier (first a) (first b)) (flat_map (λ r. map (f r) (filter (test r) (range_with_len 0 w))) (range_with_len 0 n))
grid_order {X} first f at test w n =
    order_joined (λ a b. Earlier (first a) (first b)) (λ r. map (f r) (filter (test r) (range_with_len 0 w)))
    (λ r.
    order_map (λ a b. Earlier (first a) (first b)) (f r) (filter (test r) (range_with_len 0 w))
    (order_kept (λ c d. Earlier (first (f r c)) (first (f r d))) (test r) (range_with_len 0 w)
    (order_weaker ◌<◌ (λ c d. Earlier (first (f r c)) (first (f r d))) (λ c d h. subst₂ Earlier (sym (at r c)) (sym (at r d)) (inr (refl, omega (arith, ints)))) (range_with_len 0 w) (order_counting w 0))))
    (λ r s h x y i j.
    let k = map_among (f r) (filter (test r) (range_with_len 0 w)) x i in
    let l = map_among (f s) (filter (test s) (range_with_len 0 w)) y j in
    subst₂ Earlier (sym (ap first k.2 ∙ at r k.0)) (sym (ap first l.2 ∙ at s l.0)) (inl (omega (arith, ints))))
    n 0

pub points_order : (rows : List ℕ) → InOrder Earlier (points rows 31)
unfolding points columns
points_order rows = grid_order (λ p. p) (λ r c. point_at c r) (λ r c. refl) (λ r c. marked rows c r) 31 31

-- a column more is counted where it has a point
pub length_columns_more : (rows : List ℕ) (r c : ℕ) → length (columns rows r (c + 1)) ≡ length (columns rows r c) + cond (marked rows c r) 1 0
unfolding columns
length_columns_more rows r c = ap (λ (n : ℕ). length (filter (λ k. marked rows k r) (range_with_len 0 n))) (add-one c) ∙ length_kept_push (λ k. marked rows k r) c

pub length_columns_none : (rows : List ℕ) (r : ℕ) → length (columns rows r 0) ≡ 0
unfolding columns
length_columns_none rows r = refl

-- the points are counted row by row, at most 31 in each
pub length_points : (rows : List ℕ) → length (points rows 31) ≡ sum_by (λ r. length (columns rows r 31)) (range_with_len 0 31)
unfolding points
length_points rows =
    length-flat_map (λ r. map (λ c. point_at c r) (columns rows r 31)) (range_with_len 0 31)
    ∙ ap (λ (f : ℕ → ℕ). sum_by f (range_with_len 0 31)) (λ i r. length-map (columns rows r 31) (λ c. point_at c r) i)

columns_few : (rows : List ℕ) (r : ℕ) → length (columns rows r 31) ≤ 31
unfolding columns
columns_few rows r =
    let e = length-filter (λ c. marked rows c r) (range_with_len 0 31) in
    let l = count_by-le-length (λ c. marked rows c r) (range_with_len 0 31) in
    omega arith

pub points_few : (rows : List ℕ) → sum_by (λ r. length (columns rows r 31)) (range_with_len 0 31) ≤ 961
points_few rows = sum_by-le-sum_by (λ r. length (columns rows r 31)) (λ _. 31) (range_with_len 0 31) (columns_few rows)
