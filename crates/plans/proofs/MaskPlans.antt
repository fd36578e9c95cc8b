-- The plan that is made from a mask fits together, and is the mask's.
use Rattle.std.proofs.Common.{◌≡◌, ℕ, ◌+◌, ◌-◌, ◌<◌, ◌≤◌, List, [], map, length, get_or, pos, ◌+ℤ◌, ◌-ℤ◌, nat_abs, sym, ap, ◌∙◌, subst, ap₂, arith}
use Rattle.std.specs.List.{AllByRecursion}
use Rattle.std.proofs.ByRecursion.{All-get_or}
use Rattle.std.proofs.lemmas.List.{get_or-map, length-map}
use Rattle.std.proofs.lemmas.Int.{ints}
use Rattle.masks.specs.Points.{Among}
use Rattle.masks.specs.Rows.{points}
use Rattle.masks.specs.Chords.{chords}
use Rattle.masks.specs.Lengths.{lengths, Serves}
use Rattle.masks.specs.Cost.{spanned}
use Rattle.masks.specs.declared.chord.Chord.{Chord}
use Rattle.masks.proofs.CostBounds.{chords_few, lengths_few, spanned_few}
use Rattle.masks.proofs.Grids.{same_point}
use Rattle.masks.proofs.Halving.{lengths_serve, lengths_short}
use Rattle.masks.proofs.Lists.{all_among}
use Rattle.masks.proofs.Runs.{some_chord, chord_sizes, chord_point, point_chord}
use Rattle.plans.specs.declared.plan.Plan.{Plan}
use Rattle.plans.specs.declared.placed.PlannedChord.{PlannedChord}
use Rattle.plans.specs.Sound.{chord_at, Sound}
use Rattle.plans.specs.Shown.{chords_of, lengths_of}
use Rattle.plans.specs.Placed.{Below, index_of, planned}
use Rattle.plans.specs.Plan.{long, point_of, Spells, PlanOf}
use Rattle.plans.proofs.Finds.{getD_among, among_getD, index_found, climbs_at, climbs_low}
use Rattle.plans.proofs.Extents.{north, last_row}
use Rattle.plans.proofs.MaskChords.{lies}

abbrev none : Chord
none = record { v = pos 0; start = pos 0; length = 0 }

-- no chord lies north of the first row
pub from_first : (ws : List ℕ) (first : ℕ) → pos first ≡ north ws +ℤ pos 15 → AllByRecursion (Below first) (chords ws 31)
from_first ws first A = all_among (Below first) (chords ws 31) (λ c i. let b = ((last_row ws).4 c i).0 in omega (arith, ints, A, b))

module _ (ws : List ℕ) (some : points ws 31 ≡ [] → ⊥) (first : ℕ) (A : pos first ≡ north ws +ℤ pos 15) where
  abbrev cs : List Chord
  cs = chords ws 31

  abbrev ns : List ℕ
  ns = lengths (chords ws 31)

  abbrev out : List PlannedChord
  out = map (planned first ns) cs

  serves : Serves cs ns
  serves = let a = some_chord ws some in lengths_serve cs a.0 a.1 (chord_sizes ws)

  one : 1 ≤ length cs
  one = let a = some_chord ws some in let i = among_getD cs a.0 none a.1 in omega (arith, i.1)

  as_many : length out ≡ length cs
  as_many = length-map cs (planned first ns)

  some_length : 1 ≤ length ns
  some_length = let e = ap length serves.from_one in omega (arith, e)

  climbs_ns : (i : ℕ) → 1 ≤ i → i < length ns → (get_or ns (i - 1) 0 < get_or ns i 0) × (get_or ns i 0 ≤ get_or ns (i - 1) 0 + get_or ns (i - 1) 0)
  climbs_ns i h l =
      subst (λ (xs : List ℕ). (get_or xs (i - 1) 0 < get_or xs i 0) × (get_or xs i 0 ≤ get_or xs (i - 1) 0 + get_or xs (i - 1) 0)) (sym serves.from_one)
      (climbs_at 1 serves.more serves.climbs i h (subst (λ (xs : List ℕ). i < length xs) serves.from_one l))

  low_ns : (i : ℕ) → i < length ns → 1 ≤ get_or ns i 0
  low_ns i l =
      subst (λ (xs : List ℕ). 1 ≤ get_or xs i 0) (sym serves.from_one)
      (climbs_low 1 serves.more serves.climbs i (subst (λ (xs : List ℕ). i < length xs) serves.from_one l))

  at_chord : (q : ℕ) → q < length cs → chord_at out q ≡ planned first ns (get_or cs q none)
  at_chord q h = get_or-map (planned first ns) cs q none (record { row = 0; column = 0; index = 0 }) h

  found : (q : ℕ) → q < length cs → (index_of ns (get_or cs q none).length < length ns) × (get_or ns (index_of ns (get_or cs q none).length) 0 ≡ (get_or cs q none).length)
  found q h = index_found ns (get_or cs q none).length (serves.each (get_or cs q none) (getD_among cs q none h))

  at_long : (q : ℕ) → q < length cs → get_or ns (chord_at out q).index 0 ≡ (get_or cs q none).length
  at_long q h = ap (λ (c : PlannedChord). get_or ns c.index 0) (at_chord q h) ∙ (found q h).1

  -- the row and the column of a chord, as naturals and as offsets
  at_row : (q : ℕ) → q < length cs → ((chord_at out q).row < spanned ws) × (pos (chord_at out q).row -ℤ pos (15 - first) ≡ (get_or cs q none).v)
  at_row q h =
      let ch = get_or cs q none in
      let i = getD_among cs q none h in
      let v = (lies ws ch i).v_is in
      let n = ap nat_abs v in
      let e = ap (λ (c : PlannedChord). c.row) (at_chord q h) in
      let b = (last_row ws).4 ch i in
      let b0 = b.0 in
      let b1 = b.1 in
      let n0 = (last_row ws).2 in
      let w = (last_row ws).3 in
      (omega (arith, ints, e, n, v, A, b0, b1, w), omega (arith, ints, e, n, v, A, b0, n0))

  at_column : (q : ℕ) → q < length cs → ((chord_at out q).column + (get_or cs q none).length ≤ 31) × (pos (chord_at out q).column -ℤ pos 15 ≡ (get_or cs q none).start)
  at_column q h =
      let ch = get_or cs q none in
      let Y = lies ws ch (getD_among cs q none h) in
      let s = Y.start_is in
      let n = ap nat_abs s in
      let ends = Y.ends in
      let e = ap (λ (c : PlannedChord). c.column) (at_chord q h) in
      (omega (arith, e, n, ends), omega (arith, ints, e, n, s))

  pub plan_sound : Sound (15 - first) (spanned ws) ns out
  plan_sound = record {
    some_chord = omega (arith, one, as_many);
    few_chords = let l = chords_few ws 31 in omega (arith, l, as_many);
    origin = let s0 = (last_row ws).1 in let n0 = (last_row ws).2 in let w = (last_row ws).3 in omega (arith, ints, A, s0, n0, w);
    few_rows = spanned_few ws;
    some_length = some_length;
    few_lengths = lengths_few cs;
    first = ap (λ (xs : List ℕ). get_or xs 0 0) serves.from_one;
    climbs = λ i h l. (climbs_ns i h l).0;
    doubles = λ i h l. (climbs_ns i h l).1;
    low = low_ns;
    top = λ i l. let c = All-get_or (λ a. a < 32) ns i 0 l (lengths_short cs) in omega (arith, c);
    chords = λ q l.
        let h : q < length cs = omega (arith, l, as_many) in
        let f = (found q h).0 in
        let e = ap (λ (c : PlannedChord). c.index) (at_chord q h) in
        let k = (at_column q h).0 in
        let o = (lies ws (get_or cs q none) (getD_among cs q none h)).some in
        record { row = (at_row q h).0; index = omega (arith, e, f); column = omega (arith, k, o) };
    ends = λ q l. let h : q < length cs = omega (arith, l, as_many) in let k = (at_column q h).0 in let n = at_long q h in omega (arith, k, n);
  }

  -- a plan with these chords, lengths and rows is the mask's
  module _ (p : Plan) (above : p.above ≡ 15 - first) (rows : p.rows ≡ spanned ws) (ls : (lengths_of p) ≡ ns) (items : (chords_of p) ≡ out) where
    many : length (chords_of p) ≡ length cs
    many = ap length items ∙ as_many

    -- a point of a planned chord is that point of the mask's chord
    same_points : (q j : ℕ) → q < length cs → point_of p q j ≡ record { u = (get_or cs q none).start +ℤ pos j; v = (get_or cs q none).v }
    same_points q j h =
        let c = (at_column q h).1 in
        let r = (at_row q h).1 in
        let ec = ap (λ (xs : List PlannedChord). (chord_at xs q).column) items in
        let er = ap (λ (xs : List PlannedChord). (chord_at xs q).row) items in
        same_point (point_of p q j) (record { u = (get_or cs q none).start +ℤ pos j; v = (get_or cs q none).v }) (omega (arith, ints, c, ec)) (omega (arith, ints, r, er, above))

    same_long : (q : ℕ) → q < length cs → long p q ≡ (get_or cs q none).length
    same_long q h = ap₂ (λ (l : List ℕ) (xs : List PlannedChord). get_or l (chord_at xs q).index 0) ls items ∙ at_long q h

    spells : Spells p (points ws 31)
    spells = record {
      each = λ q j l k.
          let h : q < length cs = omega (arith, l, many) in
          let e = same_long q h in
          subst (Among (points ws 31)) (sym (same_points q j h)) (chord_point ws (get_or cs q none) (getD_among cs q none h) j (omega (arith, e, k)));
      only = λ pt i.
          let k = point_chord ws pt i in
          let g = among_getD cs k.0 none k.2 in
          let e = same_long g.0 g.1 in
          let d = ap (λ (c : Chord). c.length) g.2 in
          let l = k.3 in
          (g.0, k.1, omega (arith, g.1, many), omega (arith, e, d, l), k.4 ∙ ap (λ (c : Chord). (record { u = c.start +ℤ pos k.1; v = c.v })) g.2 ∙ sym (same_points g.0 k.1 g.1));
    }

    pub mask_plan : PlanOf ws (points ws 31) p
    mask_plan = record { points = spells; rows = rows; lengths = ls; count = many }
