-- The runs of a row, and that the list of chords has just them.
use Rattle.std.proofs.Common.{◌≡◌, ℕ, zero, suc, ◌+◌, ◌-◌, ◌*◌, ◌<◌, ◌≤◌, Bool, true, false, cond, not, List, [], ◌∷◌, ◌++◌, map, length, pos, ◌+ℤ◌, ◌-ℤ◌, filter, sym, refl, ap, ◌∙◌, subst, inl, inr, add-one, arith}
use Rattle.std.specs.List.{range_with_len, flat_map, prefix_len, AllByRecursion}
use Rattle.std.proofs.lemmas.List.FromFn.{length-range_with_len}
use Rattle.std.proofs.lemmas.List.Sums.{prefix_len-le-length}
use Rattle.std.proofs.lemmas.List.{append-nil, length_push}
use Rattle.std.proofs.lemmas.Int.{ints}
use Rattle.std.proofs.lemmas.Bool.{cases_Bool, cases_eq, cases_lt, and_parts, and_from, both_ways, not-true, not_from_false}
use Rattle.std.proofs.ByRecursion.{All-weaker}
use Rattle.masks.specs.Points.{Among, Earlier, InOrder}
use Rattle.masks.specs.Rows.{marked, holds, points}
use Rattle.masks.specs.Chords.{run, starts_at, starts, chord_at, chords, OnGrid, IsChord, first_point, AllChords}
use Rattle.masks.specs.declared.point.Point.{Point}
use Rattle.masks.specs.declared.chord.Chord.{Chord}
use Rattle.masks.specs.Cost.{farthest, northmost, southmost, spanned}
use Rattle.std.specs.Int.{int_min, int_max}
use Rattle.masks.proofs.Extremes.{northmost_same, southmost_same}
use Rattle.masks.proofs.Lists.{all_among, some_among, among_kept, kept_among, among_map, map_among, among_joined, joined_among, among_counting, kept_push, joined_counting_push}
use Rattle.masks.proofs.Grids.{same_point, held_at, held_among, among_held, holds_marked, marked_column, marked_row, grid_order}

-- the longest front of consecutive numbers that pass
leading_is : (p : ℕ → Bool) (n m c : ℕ) → n ≤ m → ((j : ℕ) → j < n → p (c + j) ≡ true) → (n < m → p (c + n) ≡ false) → prefix_len p (range_with_len c m) ≡ n
leading_is p zero zero c l pass stop = refl
leading_is p zero (suc m) c l pass stop =
    let z : c + 0 ≡ c = omega arith in
    let e : p c ≡ false = ap p (sym z) ∙ stop (omega arith) in
    ap (λ (b : Bool). cond b (1 + prefix_len p (range_with_len (c + 1) m)) 0) e
leading_is p (suc n) zero c l pass stop = absurd (omega arith)
leading_is p (suc n) (suc m) c l pass stop =
    let z : c + 0 ≡ c = omega arith in
    let e : p c ≡ true = ap p (sym z) ∙ pass 0 (omega arith) in
    let on : (j : ℕ) → j < n → p (c + 1 + j) ≡ true = λ j h. let q : c + suc j ≡ c + 1 + j = omega arith in ap p (sym q) ∙ pass (suc j) (omega arith) in
    let off : n < m → p (c + 1 + n) ≡ false = λ h. let q : c + suc n ≡ c + 1 + n = omega arith in ap p (sym q) ∙ stop (omega arith) in
    let i = leading_is p n m (c + 1) (omega arith) on off in
    ap (λ (b : Bool). cond b (1 + prefix_len p (range_with_len (c + 1) m)) 0) e ∙ omega arith

leading_passes : (p : ℕ → Bool) (m c j : ℕ) → j < prefix_len p (range_with_len c m) → p (c + j) ≡ true
leading_passes p zero c j h = absurd (omega arith)
leading_passes p (suc m) c zero h =
    elim (cases_Bool (p c)) [
      | inl e ↦ let z : c + 0 ≡ c = omega arith in ap p z ∙ e
      | inr e ↦ absurd (let g = rw e at h in omega arith)
    ]
leading_passes p (suc m) c (suc j) h =
    elim (cases_Bool (p c)) [
      | inl e ↦
          let g = rw e at h in
          let q : c + suc j ≡ c + 1 + j = omega arith in
          ap p q ∙ leading_passes p m (c + 1) j (omega arith)
      | inr e ↦ absurd (let g = rw e at h in omega arith)
    ]

leading_stops : (p : ℕ → Bool) (m c : ℕ) → prefix_len p (range_with_len c m) < m → p (c + prefix_len p (range_with_len c m)) ≡ false
leading_stops p zero c h = absurd (omega arith)
leading_stops p (suc m) c h =
    elim (cases_Bool (p c)) [
      | inl e ↦
          let l : prefix_len p (range_with_len c (suc m)) ≡ 1 + prefix_len p (range_with_len (c + 1) m) = ap (λ (b : Bool). cond b (1 + prefix_len p (range_with_len (c + 1) m)) 0) e in
          let q : c + prefix_len p (range_with_len c (suc m)) ≡ c + 1 + prefix_len p (range_with_len (c + 1) m) = omega arith in
          ap p q ∙ leading_stops p m (c + 1) (omega arith)
      | inr e ↦
          let l : prefix_len p (range_with_len c (suc m)) ≡ 0 = ap (λ (b : Bool). cond b (1 + prefix_len p (range_with_len (c + 1) m)) 0) e in
          let q : c + prefix_len p (range_with_len c (suc m)) ≡ c = omega arith in
          ap p q ∙ e
    ]

-- of two neighbours at most one passes
apart_few : (p : ℕ → Bool) → ((c : ℕ) → p c ≡ true → p (suc c) ≡ true → ⊥) → (n a : ℕ) → 2 * length (filter p (range_with_len a n)) ≤ n + 1
apart_few p apart zero a = omega arith
apart_few p apart (suc zero) a = elim (cases_Bool (p a)) [ inl e ↦ rw e (omega arith) | inr e ↦ rw e (omega arith) ]
apart_few p apart (suc (suc n)) a =
    let rest = apart_few p apart n (a + 1 + 1) in
    elim (cases_Bool (p a)) [
      | inl e ↦
          elim (cases_Bool (p (a + 1))) [
            | inl f ↦ absurd (apart a e (ap p (sym (add-one a)) ∙ f))
            | inr f ↦ rw e (rw f (omega arith))
          ]
      | inr e ↦ elim (cases_Bool (p (a + 1))) [ inl f ↦ rw e (rw f (omega arith)) | inr f ↦ rw e (rw f (omega arith)) ]
    ]

module _ (rows : List ℕ) where
  pub run_is : (c r n : ℕ) → n ≤ 31 → ((j : ℕ) → j < n → marked rows (c + j) r ≡ true) → (n < 31 → marked rows (c + n) r ≡ false) → n ≡ run rows c r
  unfolding run
  run_is c r n l pass stop = sym (leading_is (λ k. marked rows k r) n 31 c l pass stop)

  run_points : (c r j : ℕ) → j < run rows c r → marked rows (c + j) r ≡ true
  unfolding run
  run_points c r j h = leading_passes (λ k. marked rows k r) 31 c j h

  run_stops : (c r : ℕ) → run rows c r < 31 → marked rows (c + run rows c r) r ≡ false
  unfolding run
  run_stops c r h = leading_stops (λ k. marked rows k r) 31 c h

  off_grid : (c r : ℕ) → 31 ≤ c → marked rows c r ≡ false
  off_grid c r h = elim (cases_Bool (marked rows c r)) [ inl e ↦ absurd (omega (arith, marked_column rows c r e)) | inr e ↦ e ]

  run_end : (c r : ℕ) → marked rows (c + run rows c r) r ≡ false
  run_end c r = elim (cases_lt (run rows c r) 31) [ inl h ↦ run_stops c r h | inr h ↦ off_grid (c + run rows c r) r (omega arith) ]

  run_some : (c r : ℕ) → marked rows c r ≡ true → 1 ≤ run rows c r
  run_some c r h =
      elim (cases_lt 0 (run rows c r)) [
        | inl l ↦ l
        | inr l ↦ let z : c + run rows c r ≡ c = omega arith in absurd (both_ways (marked rows c r) (ap (λ (k : ℕ). marked rows k r) (sym z) ∙ run_end c r) h)
      ]

  -- a chord starts at a point, and not right after a point
  starts_marked : (r c : ℕ) → starts_at rows r c ≡ true → marked rows c r ≡ true
  starts_marked r zero h = h
  starts_marked r (suc c) h = (and_parts (marked rows (suc c) r) (not (marked rows c r)) h).0

  starts_left : (r c : ℕ) → starts_at rows r (suc c) ≡ true → marked rows c r ≡ false
  starts_left r c h = not-true (marked rows c r) (and_parts (marked rows (suc c) r) (not (marked rows c r)) h).1

  starts_apart : (r c : ℕ) → starts_at rows r c ≡ true → starts_at rows r (suc c) ≡ true → ⊥
  starts_apart r c h k = both_ways (marked rows c r) (starts_left r c k) (starts_marked r c h)

  left_off : (r c : ℕ) → starts_at rows r c ≡ true → holds rows (record { u = (pos c -ℤ pos 15) -ℤ pos 1; v = pos r -ℤ pos 15 }) ≡ false
  left_off r zero h = refl
  left_off r (suc c) h =
      holds_marked rows (record { u = (pos (suc c) -ℤ pos 15) -ℤ pos 1; v = pos r -ℤ pos 15 }) c r (omega (arith, ints)) (omega (arith, ints)) ∙ starts_left r c h

  -- what starts in a column is a run
  chord_run : (r c : ℕ) → starts_at rows r c ≡ true → IsChord rows (chord_at rows r c)
  chord_run r c h = record {
    some = run_some c r (starts_marked r c h);
    points = λ j l. holds_marked rows (record { u = (pos c -ℤ pos 15) +ℤ pos j; v = pos r -ℤ pos 15 }) (c + j) r (omega (arith, ints)) (omega (arith, ints)) ∙ run_points c r j l;
    left = left_off r c h;
    right = holds_marked rows (record { u = (pos c -ℤ pos 15) +ℤ pos (run rows c r); v = pos r -ℤ pos 15 }) (c + run rows c r) r (omega (arith, ints)) (omega (arith, ints)) ∙ run_end c r;
  }

  starts_there : (c r : ℕ) → marked rows c r ≡ true → ((k : ℕ) → c ≡ suc k → marked rows k r ≡ false) → starts_at rows r c ≡ true
  starts_there zero r h left = h
  starts_there (suc c) r h left = and_from (marked rows (suc c) r) (not (marked rows c r)) h (not_from_false (marked rows c r) (left c refl))

  -- a run starts where a chord starts, and is as long
  run_chord : (ch : Chord) → IsChord rows ch → (r : ℕ) × (c : ℕ) × (r < 31) × (c < 31) × (starts_at rows r c ≡ true) × (ch ≡ chord_at rows r c)
  run_chord ch R =
      let q = held_at rows ((ch.start +ℤ pos 0) +ℤ pos 15) (ch.v +ℤ pos 15) (R.points 0 R.some) in
      let c = q.0 in
      let r = q.1 in
      let es : ch.start ≡ pos c -ℤ pos 15 = omega (arith, ints, q.2) in
      let ev : ch.v ≡ pos r -ℤ pos 15 = omega (arith, ints, q.3) in
      let point : (j : ℕ) → j < ch.length → marked rows (c + j) r ≡ true =
      λ j l. sym (holds_marked rows (record { u = ch.start +ℤ pos j; v = ch.v }) (c + j) r (omega (arith, ints)) (omega (arith, ints))) ∙ R.points j l in
      let stop : marked rows (c + ch.length) r ≡ false =
      sym (holds_marked rows (record { u = ch.start +ℤ pos ch.length; v = ch.v }) (c + ch.length) r (omega (arith, ints)) (omega (arith, ints))) ∙ R.right in
      let some = R.some in
      let last = marked_column rows (c + (ch.length - 1)) r (point (ch.length - 1) (omega arith)) in
      let el : ch.length ≡ run rows c r = run_is c r ch.length (omega arith) point (λ _. stop) in (
        r,
        c,
        marked_row rows c r q.4,
        marked_column rows c r q.4,
        starts_there c r q.4 (λ k e.
            sym (holds_marked rows (record { u = ch.start -ℤ pos 1; v = ch.v }) k r (omega (arith, ints)) (omega (arith, ints))) ∙ R.left),
        λ i. record { v = ev i; start = es i; length = el i },
      )

  chord_among : (r c : ℕ) → r < 31 → c < 31 → starts_at rows r c ≡ true → Among (chords rows 31) (chord_at rows r c)
  unfolding chords starts
  chord_among r c hr hc h =
      among_joined (λ y. map (chord_at rows y) (filter (starts_at rows y) (range_with_len 0 31))) (range_with_len 0 31) r (chord_at rows r c) (among_counting 31 0 r (omega arith) hr)
      (among_map (chord_at rows r) (filter (starts_at rows r) (range_with_len 0 31)) c
      (among_kept (starts_at rows r) (range_with_len 0 31) c (among_counting 31 0 c (omega arith) hc) h))

  among_chord : (ch : Chord) → Among (chords rows 31) ch → IsChord rows ch
  unfolding chords starts
  among_chord ch i =
      let j = joined_among (λ y. map (chord_at rows y) (filter (starts_at rows y) (range_with_len 0 31))) (range_with_len 0 31) ch i in
      let k = map_among (chord_at rows j.0) (filter (starts_at rows j.0) (range_with_len 0 31)) ch j.2 in
      subst (IsChord rows) (sym k.2) (chord_run j.0 k.0 (kept_among (starts_at rows j.0) (range_with_len 0 31) k.0 k.1).1)

  chords_order : InOrder (λ a b. Earlier (first_point a) (first_point b)) (chords rows 31)
  unfolding chords starts
  chords_order = grid_order first_point (chord_at rows) (λ r c. refl) (starts_at rows) 31 31

  pub all_runs : AllChords rows (chords rows 31)
  all_runs = record {
    runs = λ ch. (
      among_chord ch,
      λ R. let q = run_chord ch R in subst (Among (chords rows 31)) (sym q.5) (chord_among q.0 q.1 q.2 q.3 q.4),
    );
    order = chords_order;
  }

  -- one column, one row more
  pub starts_more : (r c : ℕ) → starts rows r (c + 1) ≡ starts rows r c ++ cond (starts_at rows r c) (c ∷ []) []
  unfolding starts
  starts_more r c = ap (λ (n : ℕ). filter (starts_at rows r) (range_with_len 0 n)) (add-one c) ∙ kept_push (starts_at rows r) c

  pub starts_none : (r : ℕ) → starts rows r 0 ≡ []
  unfolding starts
  starts_none r = refl

  pub chords_more : (r : ℕ) → chords rows (r + 1) ≡ chords rows r ++ map (chord_at rows r) (starts rows r 31)
  unfolding chords
  chords_more r = ap (λ (n : ℕ). flat_map (λ y. map (chord_at rows y) (starts rows y 31)) (range_with_len 0 n)) (add-one r) ∙ joined_counting_push (λ y. map (chord_at rows y) (starts rows y 31)) r

  pub chords_none : chords rows 0 ≡ []
  unfolding chords
  chords_none = refl

  -- no two chords start in neighbouring columns, so that a row has at most 16
  pub starts_few : (r n : ℕ) → 2 * length (starts rows r n) ≤ n + 1
  unfolding starts
  starts_few r n = apart_few (starts_at rows r) (starts_apart r) n 0

  pub starts_yes : (r c : ℕ) → starts_at rows r c ≡ true → starts rows r (c + 1) ≡ starts rows r c ++ c ∷ []
  starts_yes r c e = starts_more r c ∙ ap (λ (b : Bool). starts rows r c ++ cond b (c ∷ []) []) e

  pub starts_no : (r c : ℕ) → starts_at rows r c ≡ false → starts rows r (c + 1) ≡ starts rows r c
  starts_no r c e = starts_more r c ∙ ap (λ (b : Bool). starts rows r c ++ cond b (c ∷ []) []) e ∙ append-nil (starts rows r c)

  pub length_starts_yes : (r c : ℕ) → starts_at rows r c ≡ true → length (starts rows r (c + 1)) ≡ length (starts rows r c) + 1
  length_starts_yes r c e = ap length (starts_yes r c e) ∙ length_push (starts rows r c) c

  -- so that where one more starts there were fewer than 16
  pub starts_room : (r c : ℕ) → c < 31 → starts_at rows r c ≡ true → length (starts rows r c) < 16
  starts_room r c h e =
      let few = starts_few r (c + 1) in
      let more = length_starts_yes r c e in
      omega arith

  run_few : (c r : ℕ) → run rows c r ≤ 31
  unfolding run
  run_few c r = let l = prefix_len-le-length (λ k. marked rows k r) (range_with_len c 31) in omega (arith, length-range_with_len c 31)

  -- a chord lies on the grid
  pub chords_on_grid : AllByRecursion OnGrid (chords rows 31)
  chords_on_grid = all_among OnGrid (chords rows 31) (λ ch i.
      let R = among_chord ch i in
      let q = run_chord ch R in
      let s = ap (λ (d : Chord). d.start) q.5 in
      let v = ap (λ (d : Chord). d.v) q.5 in
      let e = ap (λ (d : Chord). d.length) q.5 in
      let few = run_few q.1 q.0 in
      let r = q.2 in
      let c = q.3 in
      ((omega (arith, ints), omega (arith, ints)), (omega (arith, ints), omega (arith, ints)), R.some, omega arith))

  -- a chord has from 1 to 31 points
  pub chord_sizes : AllByRecursion (λ ch. (1 ≤ ch.length) × (ch.length < 32)) (chords rows 31)
  chord_sizes = All-weaker OnGrid (λ ch. (1 ≤ ch.length) × (ch.length < 32)) (λ ch p. (p.2, p.3)) (chords rows 31) chords_on_grid

  -- the points from column k to column c stand without a gap, and a chord starts in column k
  stretch : (c r : ℕ) → marked rows c r ≡ true → (k : ℕ) × (k ≤ c) × (starts_at rows r k ≡ true) × ((j : ℕ) → k ≤ j → j ≤ c → marked rows j r ≡ true)
  stretch zero r h = (0, omega arith, h, λ j l g. let e : j ≡ 0 = omega arith in ap (λ (i : ℕ). marked rows i r) e ∙ h)
  stretch (suc c) r h =
      elim (cases_Bool (marked rows c r)) [
        | inl m ↦
            let s = stretch c r m in (
              s.0,
              omega (arith, s.1),
              s.2,
              λ j l g. elim (cases_eq j (suc c)) [ inl e ↦ ap (λ (i : ℕ). marked rows i r) e ∙ h | inr e ↦ s.3 j l (omega arith) ],
            )
        | inr m ↦ (
          suc c,
          omega arith,
          and_from (marked rows (suc c) r) (not (marked rows c r)) h (not_from_false (marked rows c r) m),
          λ j l g. let e : j ≡ suc c = omega arith in ap (λ (i : ℕ). marked rows i r) e ∙ h,
        )
      ]

  -- each point of the grid stands in a listed chord
  pub covering : (c r : ℕ) → marked rows c r ≡ true → (k : ℕ) × (k ≤ c) × (c < k + run rows k r) × Among (chords rows 31) (chord_at rows r k)
  covering c r h =
      let s = stretch c r h in
      let k = s.0 in
      let l = s.1 in
      let hc = marked_column rows c r h in
      let long : c < k + run rows k r =
      elim (cases_lt c (k + run rows k r)) [
        | inl g ↦ g
        | inr g ↦ absurd (both_ways (marked rows (k + run rows k r) r) (run_end k r) (s.3 (k + run rows k r) (omega arith) g))
      ] in
      (k, l, long, chord_among r k (marked_row rows c r h) (omega arith) s.2)

  -- a mask with a point has a chord
  pub some_chord : (points rows 31 ≡ [] → ⊥) → (ch : Chord) × Among (chords rows 31) ch
  some_chord n =
      let s = some_among (points rows 31) n in
      let p = s.0 in
      let q = held_at rows (p.u +ℤ pos 15) (p.v +ℤ pos 15) (among_held rows p s.1) in
      let k = covering q.0 q.1 q.4 in
      (chord_at rows q.1 k.0, k.3)

  -- the rows that have points are those that have chords

  -- each point of a chord is one of the mask's
  pub chord_point : (ch : Chord) → Among (chords rows 31) ch → (j : ℕ) → j < ch.length → Among (points rows 31) (record { u = ch.start +ℤ pos j; v = ch.v })
  chord_point ch i j h = held_among rows (record { u = ch.start +ℤ pos j; v = ch.v }) ((among_chord ch i).points j h)

  -- each point of the mask is one of some chord
  pub point_chord : (p : Point) → Among (points rows 31) p → (ch : Chord) × (j : ℕ) × Among (chords rows 31) ch × (j < ch.length) × (p ≡ record { u = ch.start +ℤ pos j; v = ch.v })
  point_chord p i =
      let q = held_at rows (p.u +ℤ pos 15) (p.v +ℤ pos 15) (among_held rows p i) in
      let c = q.0 in
      let r = q.1 in
      let k = covering c r q.4 in
      let j : ℕ = c - k.0 in
      let e : p.u ≡ (pos k.0 -ℤ pos 15) +ℤ pos j = omega (arith, ints, q.2, k.1) in
      let f : p.v ≡ pos r -ℤ pos 15 = omega (arith, ints, q.3) in
      (chord_at rows r k.0, j, k.3, omega (arith, k.1, k.2), same_point p (record { u = (pos k.0 -ℤ pos 15) +ℤ pos j; v = pos r -ℤ pos 15 }) e f)

  row_point : (ch : Chord) → Among (chords rows 31) ch → (p : Point) × Among (points rows 31) p × (ch.v ≡ p.v)
  row_point ch i = (record { u = ch.start +ℤ pos 0; v = ch.v }, chord_point ch i 0 (among_chord ch i).some, refl)

  row_chord : (p : Point) → Among (points rows 31) p → (ch : Chord) × Among (chords rows 31) ch × (p.v ≡ ch.v)
  row_chord p i = let k = point_chord p i in (k.0, k.2, ap (λ (q : Point). q.v) k.4)

  -- so the farthest chords lie where the farthest points do
  pub northmost_chord : farthest int_min (λ ch. ch.v) (chords rows 31) ≡ northmost (points rows 31)
  northmost_chord = northmost_same (λ ch. ch.v) (λ p. p.v) (chords rows 31) (points rows 31) row_point row_chord

  pub southmost_chord : farthest int_max (λ ch. ch.v) (chords rows 31) ≡ southmost (points rows 31)
  southmost_chord = southmost_same (λ ch. ch.v) (λ p. p.v) (chords rows 31) (points rows 31) row_point row_chord

pub spanned_some : (rows : List ℕ) → 1 ≤ spanned rows
unfolding spanned
spanned_some rows = omega arith
