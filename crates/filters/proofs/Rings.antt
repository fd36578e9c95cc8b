-- The ring of lines, and the sheet row by row.
use Rattle.std.specs.Option.{option_map}
use Rattle.std.proofs.Common.{◌≡◌, ℕ, ◌+◌, ◌-◌, ◌*◌, ◌<◌, ◌≤◌, length, true, cond, ◌||◌, ltb, ◌≢◌, List, is_some, Some, None, Option, sym, ap, ◌∙◌, subst, inl, inr, add-mul, arith}
use Rattle.std.proofs.lemmas.Bool.{cases_lt, cases_eq}
use Rattle.std.proofs.lemmas.Bool.Decides.{nat_tests}
use Rattle.cells.specs.Lattice.{Lattice}
use Rattle.sheets.specs.Sheet.{Sheet, has, Whole}
use Rattle.plans.specs.declared.plan.Plan.{Plan}
use Rattle.plans.specs.Plan.{chord_of}
use Rattle.plans.specs.Shown.{lengths_of, chords_of}
use Rattle.filters.specs.Side.{Best}
use Rattle.filters.specs.Line.{UnderCell, entry, Holds, Beside}
use Rattle.filters.specs.Row.{slot_of, run_of, picked}
use Rattle.filters.specs.Sweep.{Along, Through, SameFrom, InRing, next_slot}
use Rattle.filters.proofs.Bests.{best_same, best_at}
use Rattle.filters.proofs.Picks.{picked_best}
use Rattle.filters.proofs.Rooms.{part_room, slot_room}
use Rattle.filters.proofs.Lines.{runs_same}

slot_turn : (rows slot r : ℕ) → slot < rows → r < rows → 1 ≤ r → slot_of rows (next_slot rows slot) (r - 1) ≡ slot_of rows slot r
slot_turn rows slot r a b d = grind (arith, nat_tests)

slot_newest : (rows slot r : ℕ) → slot < rows → r + 1 ≡ rows → slot_of rows (next_slot rows slot) r ≡ slot
slot_newest rows slot r a b = grind (arith, nat_tests)

slot_apart : (rows slot r : ℕ) → slot < rows → r < rows → 1 ≤ r → slot_of rows slot r ≢ slot
slot_apart rows slot r a b d = grind (arith, nat_tests)

-- while the ring fills, the slots follow one after the other
pub slot_filling : (rows slot : ℕ) → slot + 1 < rows → next_slot rows slot ≡ slot + 1
slot_filling rows slot h = grind (arith, nat_tests)

module _ {K C : Type 0} (k : Lattice C) (f : K → C) (z : C) (s : Sheet K) (p : Plan) (w : ℕ) where
  -- a line that no write touched
  holds_kept : (old new : List K) (start l : ℕ) →
      ((x : ℕ) → start ≤ x → x < start + length (lengths_of p) * (w + 30) → entry k f new x ≡ entry k f old x) → Holds k f z s p w old start l → Holds k f z s p w new start l
  holds_kept old new start l kept H i h c m =
      let room = part_room i (length (lengths_of p)) (w + 30) h in
      let low = p.sound.low i h in
      best_at k _ _ _ (kept (start + i * (w + 30) + c) (omega arith) (omega (arith, room, low))) (H i h c m)

  -- and a slot that no write touched, since all writes were in another
  slot_kept : (old new : List K) (slot sl l : ℕ) → sl ≢ slot →
      Beside f old new (slot * length (lengths_of p) * (w + 30)) (slot * length (lengths_of p) * (w + 30) + length (lengths_of p) * (w + 30)) →
      Holds k f z s p w old (sl * length (lengths_of p) * (w + 30)) l → Holds k f z s p w new (sl * length (lengths_of p) * (w + 30)) l
  slot_kept old new slot sl l ne B =
      holds_kept old new (sl * length (lengths_of p) * (w + 30)) l
      (λ x lo hi. elim (cases_lt sl slot) [
        | inl u ↦ B.before k.greatest x (omega (arith, slot_room sl slot (length (lengths_of p)) (w + 30) u))
        | inr v ↦ let u : slot < sl = omega arith in B.after k.greatest x (omega (arith, slot_room slot sl (length (lengths_of p)) (w + 30) u))
      ])

  -- a line of a sheet that is the same from row y on
  pub holds_sheet : (t : Sheet K) (table : List K) (start l y : ℕ) → SameFrom y s t → y ≤ l - p.above → Holds k f z t p w table start l → Holds k f z s p w table start l
  holds_sheet t table start l y left h =
      runs_same k f _ _ p w table start (length (lengths_of p))
      (λ x a _ u. subst (UnderCell k f z a) (ap (λ (o : Option K). cond (ltb x 15 || ltb l p.above) None o) (left (x - 15) (l - p.above) h)) u)
      (λ x a _ u. subst (UnderCell k f z a) (sym (ap (λ (o : Option K). cond (ltb x 15 || ltb l p.above) None o) (left (x - 15) (l - p.above) h))) u)

  -- a line more, in the slot that is next
  pub ring_more : (old new : List K) (slot line n : ℕ) → slot < p.rows → n < p.rows →
      Beside f old new (slot * length (lengths_of p) * (w + 30)) (slot * length (lengths_of p) * (w + 30) + length (lengths_of p) * (w + 30)) →
      Holds k f z s p w new (slot * length (lengths_of p) * (w + 30)) line → InRing k f z s p w old slot line n → InRing k f z s p w new (next_slot p.rows slot) (line + 1) (n + 1)
  ring_more old new slot line n hs hn B H R l h m =
      elim (cases_lt l line) [
        | inl b ↦
            let rl = l + p.rows - line in
            let r1 : 1 ≤ rl = omega arith in
            let r2 : rl < p.rows = omega arith in
            let sl = slot_of p.rows slot rl in
            let er : l + p.rows - (line + 1) ≡ rl - 1 = omega arith in
            let e : sl ≡ slot_of p.rows (next_slot p.rows slot) (l + p.rows - (line + 1)) = sym (ap (slot_of p.rows (next_slot p.rows slot)) er ∙ slot_turn p.rows slot rl hs r2 r1) in
            subst (λ (i : ℕ). Holds k f z s p w new (i * length (lengths_of p) * (w + 30)) l) e
            (slot_kept old new slot sl l (slot_apart p.rows slot rl hs r2 r1) B (R l b (omega arith)))
        | inr b ↦
            let el : line ≡ l = omega arith in
            let er : l + p.rows - (line + 1) + 1 ≡ p.rows = omega (arith, p.sound.origin) in
            let e : slot ≡ slot_of p.rows (next_slot p.rows slot) (l + p.rows - (line + 1)) = sym (slot_newest p.rows slot (l + p.rows - (line + 1)) hs er) in
            subst (λ (i : ℕ). Holds k f z s p w new (i * length (lengths_of p) * (w + 30)) l) e (subst (Holds k f z s p w new (slot * length (lengths_of p) * (w + 30))) el H)
      ]

  -- the slot of the oldest line is written over
  pub ring_less : (old new : List K) (slot line n : ℕ) → slot < p.rows → n < p.rows →
      Beside f old new (slot * length (lengths_of p) * (w + 30)) (slot * length (lengths_of p) * (w + 30) + length (lengths_of p) * (w + 30)) →
      InRing k f z s p w old slot line (n + 1) → InRing k f z s p w new slot line n
  ring_less old new slot line n hs hn B R l h m =
      let rl = l + p.rows - line in
      let r1 : 1 ≤ rl = omega arith in
      let r2 : rl < p.rows = omega arith in
      slot_kept old new slot (slot_of p.rows slot rl) l (slot_apart p.rows slot rl hs r2 r1) B (R l h (omega arith))

  -- the pick over the chords is the greatest lower bound of all that they show
  pub through_best : (table : List K) (slot line x y : ℕ) → x < w → line ≡ y + p.rows →
      InRing k f z s p w table slot line p.rows →
      Best k (Through k f z s p x y) (picked k (run_of f k.greatest table p (w + 30) slot x) (length (chords_of p) - 1))
  through_best table slot line x y hx e R =
      best_same k (λ a. (q : ℕ) → q ≤ length (chords_of p) - 1 → Along k f z s p x y q a) (Through k f z s p x y) _
      (λ a g q m. g q (omega arith)) (λ a g q m. g q (omega (arith, p.sound.some_chord)))
      (picked_best k _ (Along k f z s p x y) (length (chords_of p) - 1) (λ q m.
      let hq : q < length (chords_of p) = omega (arith, p.sound.some_chord) in
      let ch = chord_of p q in
      let wi = p.sound.chords q hq in
      let en = p.sound.ends q hq in
      let l = y + ch.row in
      let sl = slot_of p.rows slot ch.row in
      let lt : l < line = omega (arith, wi.row) in
      let le : line ≤ l + p.rows = omega (arith, e) in
      let er : l + p.rows - line ≡ ch.row = omega (arith, e) in
      let H = subst (λ (n : ℕ). Holds k f z s p w table (slot_of p.rows slot n * length (lengths_of p) * (w + 30)) l) er (R l lt le) in
      let ix : (sl * length (lengths_of p) + ch.index) * (w + 30) + ch.column + x ≡ sl * length (lengths_of p) * (w + 30) + ch.index * (w + 30) + (ch.column + x) = omega (arith, add-mul (sl * length (lengths_of p)) ch.index (w + 30)) in
      best_at k _ _ _ (ap (entry k f table) ix) (H ch.index wi.index (ch.column + x) (omega (arith, en)))))

-- o has the greatest lower bound of what the chords show at (x, y)
abbrev pub ErodedAt : {K C : Type 0} → Lattice C → (K → C) → Sheet K → Plan → ℕ → ℕ → Option K → Type 0
ErodedAt {K} {C} k f s p x y o = (m : C) × (option_map f o ≡ Some m) × Best k (Through k f k.greatest s p x y) m

-- the rows of t, the sheet as it stands, that lie before y are results; the others are those of s, the sheet as it was
-- found. Both have cells only before column w.
pub record Mixed {K C : Type 0} (k : Lattice C) (f : K → C) (p : Plan) (w : ℕ) (s t : Sheet K) (y : ℕ) : Type 0 where
  pub width : t.width ≡ s.width
  pub height : t.height ≡ s.height
  pub done : (x j : ℕ) → x < w → j < y → ErodedAt k f s p x j (t.cell x j)
  pub left : SameFrom y s t
  pub beside : (x j : ℕ) → w ≤ x → t.cell x j ≡ s.cell x j

-- a row more
pub mixed_more : {K C : Type 0} (k : Lattice C) (f : K → C) (p : Plan) (w : ℕ) (s t t' : Sheet K) (y y' : ℕ) → y' ≡ y + 1 → Mixed k f p w s t y →
    t'.width ≡ t.width → t'.height ≡ t.height →
    ((x : ℕ) → x < w → ErodedAt k f s p x y (t'.cell x y)) →
    ((i j : ℕ) → w ≤ i → t'.cell i j ≡ t.cell i j) →
    ((i j : ℕ) → j ≢ y → t'.cell i j ≡ t.cell i j) →
    Mixed k f p w s t' y'
mixed_more {K} k f p w s t t' y y' e M ew eh here beside rest =
    record {
      width = ew ∙ M.width;
      height = eh ∙ M.height;
      done = λ x j h l. elim (cases_eq j y) [
        | inl a ↦ subst (λ (n : ℕ). ErodedAt k f s p x n (t'.cell x n)) (sym a) (here x h)
        | inr b ↦ subst (ErodedAt k f s p x j) (sym (rest x j b)) (M.done x j h (omega arith))
      ];
      left = λ x j h. let ne : j ≢ y = omega arith in rest x j ne ∙ M.left x j (omega arith);
      beside = λ x j h. beside x j h ∙ M.beside x j h;
    }

-- a row that is not yet written has its cells
pub row_has : {K C : Type 0} (k : Lattice C) (f : K → C) (p : Plan) (s t : Sheet K) (y x : ℕ) → Whole s → Mixed k f p s.width s t y → y < s.height → x < s.width → has t x y ≡ true
row_has {K} k f p s t y x W M h l =
    let on : has s x y ≡ true = W x y ∙ (grind (arith, nat_tests)) in
    ap is_some (M.left x y (omega arith)) ∙ on
