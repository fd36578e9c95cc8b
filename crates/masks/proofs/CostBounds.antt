-- How large the picks of a filter can be: for sheets that can be filtered, well within 64 bits.
use Rattle.std.proofs.Common.{◌≡◌, ℕ, zero, suc, ◌+◌, ◌-◌, ◌*◌, ◌^◌, ◌<◌, ◌≤◌, Bool, List, [], ◌∷◌, length, drop, ℤ, pos, ◌+ℤ◌, neg_ℤ, ◌≤ℤ◌, fold, ap, ◌∙◌, arith}
use Rattle.std.specs.List.{range_with_len, AllByRecursion}
use Rattle.std.specs.Int.{int_min, int_max}
use Rattle.std.proofs.lemmas.Nat.{mul-le}
use Rattle.std.proofs.lemmas.List.FromFn.{length-range_with_len}
use Rattle.std.proofs.lemmas.List.{length-append, length-drop, length-map}
use Rattle.std.proofs.lemmas.Int.{ints, clamps}
use Rattle.std.proofs.lemmas.List.Sums.{length-filter, count_by-le-length}
use Rattle.std.proofs.ByRecursion.{sum_by_le}
use Rattle.masks.specs.Chords.{chords, starts, chord_at, Near}
use Rattle.masks.specs.Cost.{farthest, spanned, line_picks, filter_picks}
use Rattle.masks.specs.Lengths.{listed, rising, lengths, halved, ticked}
use Rattle.masks.specs.Points.{Among}
use Rattle.masks.specs.Rows.{points}
use Rattle.masks.specs.declared.chord.Chord.{Chord}
use Rattle.masks.specs.declared.point.Point.{Point}
use Rattle.masks.proofs.Grids.{held_at, among_held, marked_row}
use Rattle.masks.proofs.Lists.{all_among}
use Rattle.masks.proofs.Runs.{chords_none, chords_more, starts_few}

-- at most 16 chords in a row
pub chords_few : (rows : List ℕ) (n : ℕ) → length (chords rows n) ≤ 16 * n
chords_few rows zero = let e = ap length (chords_none rows) in omega arith
chords_few rows (suc n) =
    let more : chords rows (suc n) ≡ _ = ap (chords rows) (sym_one n) ∙ chords_more rows n in
    let e = ap length more ∙ length-append (chords rows n) _ in
    let m = length-map (starts rows n 31) (chord_at rows n) in
    let few = starts_few rows n 31 in
    let before = chords_few rows n in
    omega arith
  where
    sym_one : (k : ℕ) → suc k ≡ k + 1
    sym_one k = omega arith

rising_few : (s : List Bool) (n : ℕ) → length (rising s n) ≤ n
unfolding rising
rising_few s n =
    let k = length-filter (listed s) (range_with_len 1 n) in
    let c = count_by-le-length (listed s) (range_with_len 1 n) in
    omega (arith, length-range_with_len 1 n)

pub lengths_few : (cs : List Chord) → length (lengths cs) ≤ 31
unfolding lengths
lengths_few cs = rising_few (halved (ticked cs)) 31

-- the farthest of offsets from -15 to 15 lie from -15 to 15, on either side of the origin
module _ {X : Type 0} (v : X → ℤ) where
  least_near : (xs : List X) (z : ℤ) → neg_ℤ (pos 15) ≤ℤ z → z ≤ℤ pos 0 → AllByRecursion (λ x. Near (v x)) xs → (neg_ℤ (pos 15) ≤ℤ fold (λ y x. int_min y (v x)) z xs) × (fold (λ y x. int_min y (v x)) z xs ≤ℤ pos 0)
  least_near [] z l h a = (l, h)
  least_near (x ∷ xs) z l h a = let n = a.0.0 in least_near xs (int_min z (v x)) (omega (arith, ints, clamps)) (omega (arith, ints, clamps)) a.1

  greatest_near : (xs : List X) (z : ℤ) → pos 0 ≤ℤ z → z ≤ℤ pos 15 → AllByRecursion (λ x. Near (v x)) xs → (pos 0 ≤ℤ fold (λ y x. int_max y (v x)) z xs) × (fold (λ y x. int_max y (v x)) z xs ≤ℤ pos 15)
  greatest_near [] z l h a = (l, h)
  greatest_near (x ∷ xs) z l h a = let n = a.0.1 in greatest_near xs (int_max z (v x)) (omega (arith, ints, clamps)) (omega (arith, ints, clamps)) a.1

  pub farthest_near : (xs : List X) → AllByRecursion (λ x. Near (v x)) xs →
      ((neg_ℤ (pos 15) ≤ℤ farthest int_min v xs) × (farthest int_min v xs ≤ℤ pos 0)) × ((pos 0 ≤ℤ farthest int_max v xs) × (farthest int_max v xs ≤ℤ pos 15))
  farthest_near xs a = let z : pos 0 ≤ℤ pos 0 = omega (arith, ints) in (least_near xs (pos 0) (omega (arith, ints)) z a, greatest_near xs (pos 0) z (omega (arith, ints)) a)

point_rows : (rows : List ℕ) (p : Point) → Among (points rows 31) p → Near p.v
point_rows rows p i =
    let q = held_at rows (p.u +ℤ pos 15) (p.v +ℤ pos 15) (among_held rows p i) in
    let l = marked_row rows q.0 q.1 q.4 in
    (omega (arith, ints, q.3), omega (arith, ints, q.3))

pub spanned_few : (rows : List ℕ) → spanned rows ≤ 31
unfolding spanned
spanned_few rows =
    let ps = points rows 31 in
    let near = farthest_near (λ p. p.v) ps (all_among (λ p. Near p.v) ps (point_rows rows)) in
    omega (arith, ints, near)

line_few : (w : ℕ) (ns : List ℕ) → length ns ≤ 31 → w ≤ 2048 → line_picks w ns ≤ 31 * 2079
line_few w ns h l =
    let s = sum_by_le (λ a. w + 31 - a) 2079 (drop 1 ns) (all_among (λ a. w + 31 - a ≤ 2079) (drop 1 ns) (λ a i. omega arith)) in
    let d = length-drop 1 ns in
    let m = mul-le (length (drop 1 ns)) 2079 31 2079 (omega arith) (omega arith) in
    omega arith

pub filter_picks_few : (rows : List ℕ) (w h : ℕ) → w ≤ 2048 → h ≤ 2048 → filter_picks rows w h < 2 ^ 40
unfolding filter_picks
filter_picks_few rows w h l g =
    let v = spanned_few rows in
    let line = line_few w (lengths (chords rows 31)) (lengths_few (chords rows 31)) l in
    let count = chords_few rows 31 in
    let built = mul-le (h + spanned rows - 1) (line_picks w (lengths (chords rows 31))) 2079 (31 * 2079) (omega arith) line in
    let area = mul-le w h 2048 2048 l g in
    let others = mul-le (w * h) (length (chords rows 31) - 1) (2048 * 2048) 496 area (omega arith) in
    omega arith
