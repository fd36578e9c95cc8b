-- A plan turned about the origin: as many rows and chords, the same lengths, the turned points.
use Rattle.std.proofs.Common.{◌≡◌, ℕ, ◌+◌, ◌-◌, ◌<◌, List, map, length, get_or, sym, ap, ◌∙◌, subst, ap₂, arith}
use Rattle.std.proofs.lemmas.List.{get_or-map, length-map}
use Rattle.std.proofs.lemmas.Int.{ints}
use Rattle.masks.specs.Points.{Among, turned}
use Rattle.masks.specs.declared.point.Point.{Point}
use Rattle.masks.proofs.Grids.{same_point}
use Rattle.masks.proofs.Lists.{among_map, map_among}
use Rattle.plans.specs.declared.plan.Plan.{Plan}
use Rattle.plans.specs.declared.placed.PlannedChord.{PlannedChord}
use Rattle.plans.specs.Sound.{chord_at, Within, Sound}
use Rattle.plans.specs.Shown.{chords_of, lengths_of}
use Rattle.plans.specs.Placed.{turned_chord}
use Rattle.plans.specs.Plan.{chord_of, long, point_of, Spells, PlanOf}

module _ (p : Plan) where
  abbrev out : List PlannedChord
  out = map (turned_chord p.rows (lengths_of p)) (chords_of p)

  as_many : length out ≡ length (chords_of p)
  as_many = length-map (chords_of p) (turned_chord p.rows (lengths_of p))

  at_chord : (q : ℕ) → q < length (chords_of p) → chord_at out q ≡ turned_chord p.rows (lengths_of p) (chord_of p q)
  at_chord q h = get_or-map (turned_chord p.rows (lengths_of p)) (chords_of p) q (record { row = 0; column = 0; index = 0 }) (record { row = 0; column = 0; index = 0 }) h

  at_long : (q : ℕ) → q < length (chords_of p) → get_or (lengths_of p) (chord_at out q).index 0 ≡ long p q
  at_long q h = ap (λ (c : PlannedChord). get_or (lengths_of p) c.index 0) (at_chord q h)

  pub turned_sound : Sound (p.rows - 1 - p.above) p.rows (lengths_of p) out
  turned_sound = record {
    some_chord = let s = p.sound.some_chord in omega (arith, s, as_many);
    few_chords = let s = p.sound.few_chords in omega (arith, s, as_many);
    origin = let o = p.sound.origin in omega (arith, o);
    few_rows = p.sound.few_rows;
    some_length = p.sound.some_length;
    few_lengths = p.sound.few_lengths;
    first = p.sound.first;
    climbs = p.sound.climbs;
    doubles = p.sound.doubles;
    low = p.sound.low;
    top = p.sound.top;
    chords = λ q l.
        let h : q < length (chords_of p) = omega (arith, l, as_many) in
        let w = p.sound.chords q h in
        let n = p.sound.low (chord_of p q).index w.index in
        subst (Within p.rows (length (lengths_of p))) (sym (at_chord q h)) (record { row = omega (arith, w.row); index = w.index; column = omega (arith, n) });
    ends = λ q l.
        let h : q < length (chords_of p) = omega (arith, l, as_many) in
        let e = p.sound.ends q h in omega (arith, e, at_long q h, ap (λ (c : PlannedChord). c.column) (at_chord q h));
  }

  module _ (t : Plan) (above : t.above ≡ p.rows - 1 - p.above) (rows : t.rows ≡ p.rows) (ls : (lengths_of t) ≡ (lengths_of p)) (items : (chords_of t) ≡ out) where
    many : length (chords_of t) ≡ length (chords_of p)
    many = ap length items ∙ as_many

    same_long : (q : ℕ) → q < length (chords_of p) → long t q ≡ long p q
    same_long q h = ap₂ (λ (l : List ℕ) (xs : List PlannedChord). get_or l (chord_at xs q).index 0) ls items ∙ at_long q h

    -- point j of a turned chord is point i of the chord, from its other end, turned
    across : (q i j : ℕ) → q < length (chords_of p) → i + j + 1 ≡ long p q → point_of t q j ≡ turned (point_of p q i)
    across q i j h e =
        let w = (p.sound.chords q h).row in
        let o = p.sound.origin in
        let n = p.sound.ends q h in
        let c = ap (λ (xs : List PlannedChord). (chord_at xs q).column) items ∙ ap (λ (k : PlannedChord). k.column) (at_chord q h) in
        let r = ap (λ (xs : List PlannedChord). (chord_at xs q).row) items ∙ ap (λ (k : PlannedChord). k.row) (at_chord q h) in
        same_point (point_of t q j) (turned (point_of p q i)) (omega (arith, ints, e, n, c)) (omega (arith, ints, w, o, r, above))

    turned_spells : (ps : List Point) → Spells p ps → Spells t (map turned ps)
    turned_spells ps P = record {
      each = λ q j k l.
          let h : q < length (chords_of p) = omega (arith, k, many) in
          let n = long p q in
          let s = same_long q h in
          let lt : j < n = omega (arith, l, s) in
          let i : ℕ = n - 1 - j in
          let e : i + j + 1 ≡ n = omega arith in
          subst (Among (map turned ps)) (sym (across q i j h e)) (among_map turned ps (point_of p q i) (P.each q i h (omega arith)));
      only = λ pt m.
          let u = map_among turned ps pt m in
          let o = P.only u.0 u.1 in
          let q = o.0 in
          let i = o.1 in
          let h = o.2 in
          let l = o.3 in
          let n = long p q in
          let s = same_long q h in
          let j : ℕ = n - 1 - i in
          let e : i + j + 1 ≡ n = omega (arith, l) in
          (q, j, omega (arith, h, many), omega (arith, s, e), u.2 ∙ ap turned o.4 ∙ sym (across q i j h e));
    }

    pub turned_plan : (ws : List ℕ) (ps : List Point) → PlanOf ws ps p → PlanOf ws (map turned ps) t
    turned_plan ws ps P = record { points = turned_spells ps P.points; rows = rows ∙ P.rows; lengths = ls ∙ P.lengths; count = many ∙ P.count }
