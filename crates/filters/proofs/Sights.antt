-- What the picks over both masks say of a place: a point that sees no cell spoils the hit.
use Rattle.std.proofs.Common.{◌≡◌, ℕ, ◌+◌, ◌<◌, true, ◌↔◌, List, map, ◌+ℤ◌, pos, is_some, Some, None, Option, sym, refl, ◌∙◌, subst, inr, arith}
use Rattle.std.proofs.lemmas.Bool.Decides.{nat_tests}
use Rattle.std.specs.Option.{option_map}
use Rattle.cells.specs.Lattice.{Lattice, Under, Above, dual}
use Rattle.masks.specs.declared.point.Point.{Point}
use Rattle.sheets.specs.Sheet.{Sheet, has, inside, Whole, shown}
use Rattle.morphology.specs.Bounds.{meets, joins}
use Rattle.morphology.specs.Filters.{seen}
use Rattle.morphology.specs.Find.{ahead, Complete, Hit}
use Rattle.morphology.proofs.Cells.{under_anti, under_flip}
use Rattle.plans.specs.declared.plan.Plan.{Plan}
use Rattle.plans.specs.Plan.{chord_of, Spells}
use Rattle.filters.specs.Side.{Best, cell_at}
use Rattle.filters.specs.Line.{place, UnderCell, entry}
use Rattle.filters.specs.Sweep.{Through, Gathered}
use Rattle.filters.proofs.Bests.{best_at}
use Rattle.filters.proofs.Erosions.{point_place, best_meets}

module _ {C : Type 0} (k : Lattice C) where
  -- the least cell lies under every cell
  least_under : (a : C) → Under k k.least a
  least_under a = under_flip (dual k) a k.least ((dual k).meet_greatest a)

  -- nothing lies strictly under it
  not_least : (a b : C) → Above k a b → a ≡ k.least → ⊥
  not_least a b h e = h.1 (e ∙ sym (under_anti k b k.least (subst (Under k b) e h.0) (least_under b)))

  above_flip : (a b : C) → Above k a b → Above (dual k) b a
  above_flip a b h = (under_flip k b a h.0, λ e. h.1 (sym e))

-- a pick that is not the least cell was made of cells alone
sees : {K C : Type 0} (k : Lattice C) (f : K → C) (m : C) (o : Option K) → (m ≡ k.least → ⊥) → UnderCell k f k.least m o → is_some (option_map f o) ≡ true
sees k f m None other u = absurd (other (under_anti k m k.least u (least_under k m)))
sees k f m (Some c) other u = refl

module _ {K C : Type 0} (k : Lattice C) (f : K → C) (s : Sheet K) (p : Plan) (ps : List Point) (P : Spells p ps) (x y : ℕ) (m : C) (b : Best k (Through k f k.least s p x y) m) where
  complete : (m ≡ k.least → ⊥) → Complete (shown f s) x y ps
  complete other pt i =
      let o = P.only pt i in
      subst (λ (r : Point). is_some (seen ◌+ℤ◌ (shown f s) (pos x) (pos y) r) ≡ true) (sym o.4)
      (subst (λ (v : Option C). is_some v ≡ true) (point_place k f k.least s p x y o.0 o.1)
      (sees k f m (place s p.above ((chord_of p o.0).column + x + o.1) (y + (chord_of p o.0).row)) other ((b m).0 (k.meet_idem m) o.0 o.2 o.1 o.3)))

  all_seen : Complete (shown f s) x y ps → m ≡ meets k (map (ahead (shown f s) x y) ps)
  all_seen c = best_meets k f k.least s p x y ps m P (λ pt i. inr (c pt i)) b

-- so the place is a hit exactly where the one pick lies strictly above the other
pub hit_here : {K C : Type 0} (k : Lattice C) (f : K → C) (s : Sheet K) (p q : Plan) (ps qs : List Point) → Spells p ps → Spells q qs → (x y : ℕ) (m n : C) → has (shown f s) x y ≡ true →
    Best k (Through k f k.least s p x y) m → Best (dual k) (Through (dual k) f k.greatest s q x y) n → Above k m n ↔ Hit k ps qs (shown f s) x y
hit_here k f s p q ps qs P Q x y m n on b d = (
  λ a.
      let fores = complete k f s p ps P x y m b (not_least k m n a) in
      let backs = complete (dual k) f s q qs Q x y n d (not_least (dual k) n m (above_flip k m n a)) in
      record {
        on = on;
        fores = fores;
        backs = backs;
        above = subst (λ v. Above k v (joins k (map (ahead (shown f s) x y) qs))) (all_seen k f s p ps P x y m b fores)
            (subst (λ v. Above k m v) (all_seen (dual k) f s q qs Q x y n d backs) a);
      },
  λ h.
      subst (λ v. Above k v n) (sym (all_seen k f s p ps P x y m b h.fores))
      (subst (λ v. Above k (meets k (map (ahead (shown f s) x y) ps)) v) (sym (all_seen (dual k) f s q qs Q x y n d h.backs)) h.above),
)

-- a place has a cell where it lies inside the size
shown_has : {K C : Type 0} (f : K → C) (o : Option K) → is_some (option_map f o) ≡ is_some o
shown_has f None = refl
shown_has f (Some c) = refl

pub inside_has : {K C : Type 0} (f : K → C) (s : Sheet K) → Whole s → (x y : ℕ) → x < s.width → y < s.height → has (shown f s) x y ≡ true
inside_has f s W x y a b = shown_has f (s.cell x y) ∙ W x y ∙ (grind (arith, nat_tests))

pub has_inside : {K C : Type 0} (f : K → C) (s : Sheet K) → Whole s → (x y : ℕ) → has (shown f s) x y ≡ true → (x < s.width) × (y < s.height)
has_inside f s W x y e =
    let i : inside s.width s.height x y ≡ true = sym (W x y) ∙ sym (shown_has f (s.cell x y)) ∙ e in
    let l : x < s.width = grind (arith, nat_tests) in
    let m : y < s.height = grind (arith, nat_tests) in
    (l, m)

-- the two picks of a row say where its hits are
pub row_says : {K C : Type 0} (k : Lattice C) (f : K → C) (s : Sheet K) (p q : Plan) (ps qs : List Point) → Spells p ps → Spells q qs → Whole s →
    (t r fores backs : List K) (a b w y : ℕ) → w ≡ s.width → y < s.height →
    ((x : ℕ) → x < w → cell_at f k.least fores x ≡ entry k f t (a + x)) → ((x : ℕ) → x < w → cell_at f k.greatest backs x ≡ entry (dual k) f r (b + x)) →
    Gathered k f k.least s p w t a y → Gathered (dual k) f k.greatest s q w r b y →
    (x : ℕ) → x < w → Above k (cell_at f k.least fores x) (cell_at f k.greatest backs x) ↔ Hit k ps qs (shown f s) x y
row_says k f s p q ps qs P Q W t r fores backs a b w y ew hy F B G H x h =
    hit_here k f s p q ps qs P Q x y _ _ (inside_has f s W x y (omega (arith, ew)) hy) (best_at k _ _ _ (F x h) (G x h)) (best_at (dual k) _ _ _ (B x h) (H x h))
