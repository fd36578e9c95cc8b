-- The hits of a row, column by column, and those of the rows, row by row.
use Rattle.std.proofs.Common.{◌≡◌, ℕ, ◌+◌, ◌<◌, ◌↔◌, List, [], ◌∷◌, ◌++◌, length, get_or, sym, ap, ◌∙◌, subst, inl, inr, arith}
use Rattle.std.specs.List.{enumerate_from, zip}
use Rattle.std.proofs.lemmas.Bool.{cases_lt}
use Rattle.std.proofs.lemmas.List.FromFn.{length-enumerate_from, get_or-enumerate_from}
use Rattle.std.proofs.lemmas.Slice.Zip.{length-zip, get_or-zip}
use Rattle.cells.specs.Lattice.{Lattice, Above}
use Rattle.masks.specs.Points.{Among}
use Rattle.masks.specs.declared.point.Point.{Point}
use Rattle.masks.proofs.Lists.{among_left, among_right, among_either, among_last, among_push}
use Rattle.masks.proofs.Orders.{order_append}
use Rattle.sheets.specs.Sheet.{Sheet}
use Rattle.morphology.specs.Find.{Before, InRowOrder, Hit, HitList}
use Rattle.morphology.specs.declared.place.Place.{Place}
use Rattle.filters.specs.Side.{cell_at}
use Rattle.filters.specs.Find.{RowHits}
use Rattle.filters.proofs.Entries.{at_read}

-- a place is its column and its row
same_place : (p q : Place) → p.x ≡ q.x → p.y ≡ q.y → p ≡ q
same_place p q ex ey = λ i. record { x = ex i; y = ey i }

module _ {K C : Type 0} (k : Lattice C) (f : K → C) (y : ℕ) (fores backs : List K) (n : ℕ) (qs : List Place) (R : RowHits k f y fores backs n qs) where
  HitIn : ℕ → Type 0
  HitIn x = Above k (cell_at f k.least fores x) (cell_at f k.greatest backs x)

  -- one column more, which is a hit
  pub row_hit : (p : Place) → p.x ≡ n → p.y ≡ y → Above k (cell_at f k.least fores n) (cell_at f k.greatest backs n) → RowHits k f y fores backs (n + 1) (qs ++ p ∷ [])
  unfolding HitIn
  row_hit p ex ey a =
      record {
        just = λ q. (
          λ i. elim (among_push qs p q i) [
            | inl j ↦ let h = (R.just q).0 j in (h.0, omega (arith, h.1), h.2)
            | inr e ↦ (ap (λ (r : Place). r.y) e ∙ ey, (let en = ap (λ (r : Place). r.x) e ∙ ex in omega (arith, en)), subst HitIn (sym (ap (λ (r : Place). r.x) e ∙ ex)) a)
          ],
          λ h. elim (cases_lt q.x n) [
            | inl l ↦ among_left qs (p ∷ []) q ((R.just q).1 (h.0, l, h.2))
            | inr m ↦
                let en : q.x ≡ n = omega (arith, h.1) in
                subst (Among (qs ++ p ∷ [])) (same_place p q (ex ∙ sym en) (ey ∙ sym h.0)) (among_last qs p)
          ],
        );
        order = order_append Before qs (p ∷ []) R.order (tt, tt)
            (λ a b i j. let h = (R.just a).0 i in elim j [
              | inl e ↦ inr (h.0 ∙ sym (ap (λ (r : Place). r.y) e ∙ ey), (let en = ap (λ (r : Place). r.x) e ∙ ex in omega (arith, en, h.1)))
              | inr z ↦ absurd z
            ]);
      }

  -- one column more, which is none
  pub row_pass : (Above k (cell_at f k.least fores n) (cell_at f k.greatest backs n) → ⊥) → RowHits k f y fores backs (n + 1) qs
  unfolding HitIn
  row_pass none =
      record {
        just = λ q. (
          λ i. let h = (R.just q).0 i in (h.0, omega (arith, h.1), h.2),
          λ h. elim (cases_lt q.x n) [
            | inl l ↦ (R.just q).1 (h.0, l, h.2)
            | inr m ↦ let en : q.x ≡ n = omega (arith, h.1) in absurd (none (subst HitIn en h.2))
          ],
        );
        order = R.order;
      }

-- ps are the hits in the rows before y, in row order
pub record HitsAbove {C : Type 0} (k : Lattice C) (fore back : List Point) (f : Sheet C) (y : ℕ) (ps : List Place) : Type 0 where
  pub just : (p : Place) → Among ps p ↔ ((p.y < y) × Hit k fore back f p.x p.y)
  pub order : InRowOrder ps

-- one row more; w is its width, and its picks say where its hits are
pub hits_more : {K C : Type 0} (k : Lattice C) (f : K → C) (fore back : List Point) (s : Sheet C) (y w : ℕ) (fores backs : List K) (ps qs : List Place) →
    ((x : ℕ) → x < w → Above k (cell_at f k.least fores x) (cell_at f k.greatest backs x) ↔ Hit k fore back s x y) →
    ((x : ℕ) → Hit k fore back s x y → x < w) →
    HitsAbove k fore back s y ps → RowHits k f y fores backs w qs → HitsAbove k fore back s (y + 1) (ps ++ qs)
hits_more k f fore back s y w fores backs ps qs says on P Q =
    record {
      just = λ p. (
        λ i. elim (among_either ps qs p i) [
          | inl j ↦ let h = (P.just p).0 j in (omega (arith, h.0), h.1)
          | inr j ↦
              let h = (Q.just p).0 j in
              (omega (arith, h.0), subst (λ (r : ℕ). Hit k fore back s p.x r) (sym h.0) ((says p.x h.1).0 h.2))
        ],
        λ h. elim (cases_lt p.y y) [
          | inl l ↦ among_left ps qs p ((P.just p).1 (l, h.1))
          | inr m ↦
              let e : p.y ≡ y = omega (arith, h.0) in
              let hit = subst (λ (r : ℕ). Hit k fore back s p.x r) e h.1 in
              let l = on p.x hit in
              among_right ps qs p ((Q.just p).1 (e, l, (says p.x l).1 hit))
        ],
      );
      order = order_append Before ps qs P.order Q.order
          (λ a b i j. let h = (P.just a).0 i in let g = (Q.just b).0 j in inl (omega (arith, h.0, g.0)));
    }

-- when all rows are done, the list is that of all hits
pub hits_all : {C : Type 0} (k : Lattice C) (fore back : List Point) (s : Sheet C) (y : ℕ) (ps : List Place) → ((p : Place) → Hit k fore back s p.x p.y → p.y < y) → HitsAbove k fore back s y ps → HitList k fore back s ps
hits_all k fore back s y ps on P =
    record {
      hits = λ p. (λ i. ((P.just p).0 i).1, λ h. (P.just p).1 (on p h, h));
      order = P.order;
    }

-- what stands at place i of two lists of one length that are gone through together
pub pair_at : {K C : Type 0} (f : K → C) (z v : C) (xs ys : List K) (i x : ℕ) (a b : K) → length xs ≡ length ys → i < length (enumerate_from 0 (zip xs ys)) →
    ◌≡◌ {A = ℕ × (K × K)} (x, (a, b)) (get_or (enumerate_from 0 (zip xs ys)) i (x, (a, b))) → (x ≡ i) × (cell_at f z xs i ≡ f a) × (cell_at f v ys i ≡ f b)
pair_at {K} f z v xs ys i x a b e h p =
    let n = length-enumerate_from 0 (zip xs ys) in
    let m = length-zip xs ys in
    let both : i < length (zip xs ys) = omega arith in
    let left : i < length xs = omega arith in
    let right : i < length ys = omega arith in
    let q = p ∙ get_or-enumerate_from 0 (zip xs ys) i (x, (a, b)) both ∙ ap (λ (t : K × K). (0 + i, t)) (get_or-zip xs ys i (a, b) left right) in
    let first : x ≡ 0 + i = ap (λ (t : ℕ × (K × K)). t.0) q in
    (omega arith, at_read f z xs i a left (ap (λ (t : ℕ × (K × K)). t.1.0) q), at_read f v ys i b right (ap (λ (t : ℕ × (K × K)). t.1.1) q))
