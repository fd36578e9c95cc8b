-- The lines of the table, length by length.
use borrow.Rule.Slice.PartMut.{put_mid}
use Rattle.std.proofs.Common.{◌≡◌, ℕ, ◌+◌, ◌-◌, ◌*◌, ◌<◌, ◌≤◌, List, [], ◌∷◌, length, get_or, take, drop, sum_by, sym, refl, ap, ◌∙◌, subst, arith, below_more}
use Rattle.std.specs.List.{enumerate_from, zip}
use Rattle.std.proofs.lemmas.Grind.{get_or_after_one, get_or_default_zero}
use Rattle.std.proofs.lemmas.List.FromFn.{length-enumerate_from, get_or-enumerate_from}
use Rattle.std.proofs.lemmas.Slice.Zip.{length-zip, get_or-zip}
use Rattle.std.proofs.lemmas.List.{length-take, length-drop, get_or-take, length-take-le, take_more, drop-append-le}
use Rattle.std.proofs.lemmas.List.Sums.{sum_by_push}
use Rattle.cells.specs.Lattice.{Lattice, Under}
use Rattle.masks.specs.Cost.{line_picks}
use Rattle.sheets.specs.Sheet.{Sheet}
use Rattle.plans.specs.declared.plan.Plan.{Plan}
use Rattle.plans.specs.Plan.{length_of}
use Rattle.plans.specs.Shown.{lengths_of}
use Rattle.filters.specs.Line.{or_else, place, entry, Runs, Holds}
use Rattle.filters.proofs.Entries.{at_part}
use Rattle.filters.proofs.Bests.{best_same, best_at, best_runs}
use Rattle.filters.proofs.Rooms.{part_room}

-- one length more
pub runs_more : {K C : Type 0} (k : Lattice C) (f : K → C) (G : ℕ → C → Type 0) (p : Plan) (w : ℕ) (old new : List K) (start i : ℕ) → 1 ≤ i → i < length (lengths_of p) →
    ((c : ℕ) → c < w + 30 + 1 - length_of p i → entry k f new (start + i * (w + 30) + c) ≡ k.meet (entry k f old (start + (i - 1) * (w + 30) + c)) (entry k f old (start + (i - 1) * (w + 30) + c + (length_of p i - length_of p (i - 1))))) →
    ((x : ℕ) → x < start + i * (w + 30) → entry k f new x ≡ entry k f old x) →
    Runs k f G p w old start i → Runs k f G p w new start (i + 1)
runs_more k f G p w old new start i i1 ip built kept R =
    below_more _ _
    (λ i' h c l.
    let room = part_room i' i (w + 30) h in
    let low = p.sound.low i' (omega arith) in
    let lt : start + i' * (w + 30) + c < start + i * (w + 30) = omega (arith, room, low) in
    best_at k _ _ _ (kept (start + i' * (w + 30) + c) lt) (R i' h c l))
    (λ c l.
    let up = p.sound.climbs i i1 ip in
    let two = p.sound.doubles i i1 ip in
    let d = length_of p i - length_of p (i - 1) in
    let b : i - 1 < i = omega arith in
    let lc : c < w + 30 + 1 - length_of p i = omega arith in
    let l1 : c + length_of p (i - 1) ≤ w + 30 = omega (arith, up) in
    let l2 : c + d + length_of p (i - 1) ≤ w + 30 = omega (arith, up) in
    let dm : d ≤ length_of p (i - 1) = omega (arith, two) in
    let en : length_of p i ≡ d + length_of p (i - 1) = omega (arith, up) in
    let ex : start + (i - 1) * (w + 30) + c + d ≡ start + (i - 1) * (w + 30) + (c + d) = omega arith in
    best_at k _ _ _ (built c lc)
    (best_runs k G c d (length_of p (i - 1)) (length_of p i) _ _ dm en (R (i - 1) b c l1)
    (best_at k _ _ _ (ap (entry k f old) ex) (R (i - 1) b (c + d) l2))))

-- the same runs, said in another way
pub runs_same : {K C : Type 0} (k : Lattice C) (f : K → C) (G G' : ℕ → C → Type 0) (p : Plan) (w : ℕ) (t : List K) (start n : ℕ) →
    ((x : ℕ) (a : C) → x < w + 30 → G x a → G' x a) → ((x : ℕ) (a : C) → x < w + 30 → G' x a → G x a) →
    Runs k f G p w t start n → Runs k f G' p w t start n
runs_same k f G G' p w t start n to from R i h c l =
    best_same k _ _ _ (λ a g j m. to (c + j) a (omega arith) (g j m)) (λ a g j m. from (c + j) a (omega arith) (g j m)) (R i h c l)

-- runs over a line that was loaded from the sheet
pub runs_holds : {K C : Type 0} (k : Lattice C) (f : K → C) (z : C) (s : Sheet K) (p : Plan) (w : ℕ) (mid t : List K) (l : ℕ) →
    ((i : ℕ) → i < w + 30 → entry k f mid i ≡ or_else f z (place s p.above i l)) →
    Runs k f (λ x a. Under k a (entry k f mid x)) p w t 0 (length (lengths_of p)) → Holds k f z s p w t 0 l
runs_holds k f z s p w mid t l e =
    runs_same k f _ _ p w t 0 (length (lengths_of p))
    (λ x a h u. subst (Under k a) (e x h) u)
    (λ x a h u. subst (Under k a) (sym (e x h)) u)

-- lines that are put over a part of the table
pub holds_part : {K C : Type 0} (k : Lattice C) (f : K → C) (z : C) (s : Sheet K) (p : Plan) (w : ℕ) (table lines : List K) (start l m : ℕ) →
    start ≤ length table → length lines ≡ length (lengths_of p) * (w + 30) → Holds k f z s p w lines 0 l → Holds k f z s p w (put_mid start m table lines) start l
holds_part k f z s p w table lines start l m room long H i h c lc =
    let in_slot = part_room i (length (lengths_of p)) (w + 30) h in
    let low = p.sound.low i h in
    let e : start + i * (w + 30) + c ≡ start + (0 + i * (w + 30) + c) = omega arith in
    best_at k _ _ _ (ap (entry k f (put_mid start m table lines)) e ∙ at_part f k.greatest start m table lines room (0 + i * (w + 30) + c) (omega (arith, in_slot, low, long, lc))) (H i h c lc)

-- the picks of a line, one length more
pub picks_more : (w : ℕ) (xs : List ℕ) (i : ℕ) → 1 ≤ i → i < length xs → line_picks w (take (i + 1) xs) ≡ line_picks w (take i xs) + (w + 31 - get_or xs i 0)
picks_more w xs i h l =
    let e : length (take i xs) ≡ i = length-take-le i xs (omega arith) in
    ap (line_picks w) (take_more xs i 0 l)
    ∙ ap (sum_by (λ a. w + 31 - a)) (drop-append-le 1 (take i xs) (get_or xs i 0 ∷ []) (omega (arith, e)))
    ∙ sum_by_push (λ a. w + 31 - a) (drop 1 (take i xs)) (get_or xs i 0)

-- a length and the one after it, as they are gone through together
neighbours : (xs : List ℕ) (m i x a b : ℕ) → m ≡ length xs - 1 → i < length (enumerate_from 0 (zip xs (take m (drop 1 xs)))) →
    ◌≡◌ {A = ℕ × (ℕ × ℕ)} (x, (a, b)) (get_or (enumerate_from 0 (zip xs (take m (drop 1 xs)))) i (x, (a, b))) →
    (x ≡ i) × (i + 1 < length xs) × (a ≡ get_or xs i 0) × (b ≡ get_or xs (i + 1) 0)
neighbours xs m i x a b e h p =
    let ys = take m (drop 1 xs) in
    let n = length-enumerate_from 0 (zip xs ys) in
    let z = length-zip xs ys in
    let t = length-take m (drop 1 xs) in
    let d = length-drop 1 xs in
    let both : i < length (zip xs ys) = omega arith in
    let left : i < length xs = omega arith in
    let right : i < length ys = omega arith in
    let room : i < m = omega arith in
    let next : i + 1 < length xs = omega arith in
    let q = p ∙ get_or-enumerate_from 0 (zip xs ys) i (x, (a, b)) both ∙ ap (λ (u : ℕ × ℕ). (0 + i, u)) (get_or-zip xs ys i (a, b) left right) in
    let first : x ≡ 0 + i = ap (λ (u : ℕ × (ℕ × ℕ)). u.0) q in
    let after : 1 + i ≡ i + 1 = omega arith in (
      omega arith,
      next,
      ap (λ (u : ℕ × (ℕ × ℕ)). u.1.0) q ∙ get_or_default_zero xs i a left,
      ap (λ (u : ℕ × (ℕ × ℕ)). u.1.1) q ∙ get_or-take m (drop 1 xs) i b room ∙ get_or_after_one xs i b ∙ ap (λ (k : ℕ). get_or xs k b) after ∙ get_or_default_zero xs (i + 1) b next,
    )

-- a turn has length n and the one after it, which the plan says to be longer
pub record Turn (p : Plan) (n i shorter longer : ℕ) : Type 0 where
  pub here : i ≡ n
  pub within : n + 1 < length (lengths_of p)
  pub one : 1 ≤ n + 1
  pub back : length_of p (n + 1 - 1) ≡ length_of p n
  pub shorter_is : shorter ≡ length_of p n
  pub longer_is : longer ≡ length_of p (n + 1)
  pub up : length_of p (n + 1 - 1) < length_of p (n + 1)
  pub top : length_of p (n + 1) ≤ 31
  pub low : 1 ≤ length_of p n

pub turn : (p : Plan) (lens : List ℕ) → lens ≡ (lengths_of p) → (n i a b : ℕ) → n < length (enumerate_from 0 (zip lens (take (length lens - 1) (drop 1 lens)))) →
    ◌≡◌ {A = ℕ × (ℕ × ℕ)} (i, (a, b)) (get_or (enumerate_from 0 (zip lens (take (length lens - 1) (drop 1 lens)))) n (i, (a, b))) → Turn p n i a b
turn p lens items n i a b e h =
    let N = neighbours lens (length lens - 1) n i a b refl e h in
    let within : n + 1 < length (lengths_of p) = omega (arith, N.1, ap length items) in
    let one : 1 ≤ n + 1 = omega arith in
    record {
      here = N.0;
      within = within;
      one = one;
      back = ap (length_of p) (omega arith);
      shorter_is = N.2 ∙ ap (λ (l : List ℕ). get_or l n 0) items;
      longer_is = N.3 ∙ ap (λ (l : List ℕ). get_or l (n + 1) 0) items;
      up = p.sound.climbs (n + 1) one within;
      top = p.sound.top (n + 1) within;
      low = p.sound.low n (omega arith);
    }
