-- The adjunction: a sheet lies under a gathered one exactly when each of its cells lies under all that its place sees.
use Rattle.std.proofs.Common.{◌≡◌, ◌↔◌, List, map, ℤ, pos, negsuc, ◌+ℤ◌, ◌-ℤ◌, Some, None, Option, sym, subst₂}
use lib.IntN.{+ℤ-neg_ℤ_cancel, -ℤ-+ℤ_cancel}
use Rattle.std.specs.Option.{option_map}
use Rattle.cells.specs.Lattice.{Lattice, dual}
use Rattle.masks.specs.Points.{Among}
use Rattle.masks.specs.declared.point.Point.{Point}
use Rattle.sheets.specs.Sheet.{Sheet}
use Rattle.morphology.specs.Bounds.{meets}
use Rattle.morphology.specs.Filters.{at, seen, gathered}
use Rattle.morphology.specs.Order.{UnderAt, UnderSheet}
use Rattle.morphology.specs.Laws.{Adjunction}
use Rattle.morphology.proofs.Cells.{under_flip}
use Rattle.morphology.proofs.Meets.{Covers, covers_trans, meets_under, under_meets}

-- two steps that undo each other
pub record Steps : Type 0 where
  pub go : ℤ → ℤ → ℤ
  pub back : ℤ → ℤ → ℤ
  pub undo : (x u : ℤ) → back (go x u) u ≡ x
  pub redo : (x u : ℤ) → go (back x u) u ≡ x

abbrev pub exchanged : Steps → Steps
exchanged st = record { go = st.back; back = st.go; undo = st.redo; redo = st.undo }

-- the step of the erosion, with that of the dilation to undo it
abbrev pub plus : Steps
plus = record { go = ◌+ℤ◌; back = ◌-ℤ◌; undo = +ℤ-neg_ℤ_cancel; redo = -ℤ-+ℤ_cancel }

-- if both have cells, the first's lies under the second's
abbrev Loose : {C : Type 0} → Lattice C → Option C → Option C → Type 0
Loose k None o = Unit {0}
Loose k (Some a) o = Covers k a o

-- each cell of f lies under all the cells of g that its place sees
abbrev Spread : {C : Type 0} → Lattice C → (ℤ → ℤ → ℤ) → List Point → Sheet C → Sheet C → Type 0
Spread k go ps f g = (x y : ℤ) (p : Point) → Among ps p → Loose k (at f x y) (seen go g x y p)

module _ {C : Type 0} (k : Lattice C) where
  flip_at : (o q : Option C) → UnderAt k o q → UnderAt (dual k) q o
  flip_at None None h = tt
  flip_at None (Some b) h = h
  flip_at (Some a) None h = h
  flip_at (Some a) (Some b) h = under_flip k a b h

  pub flip_sheet : (f g : Sheet C) → UnderSheet k f g → UnderSheet (dual k) g f
  flip_sheet f g h = record {
    width = sym h.width;
    height = sym h.height;
    cells = λ x y. flip_at (f.cell x y) (g.cell x y) (h.cells x y);
  }

  flip_loose : (o q : Option C) → Loose (dual k) o q → Loose k q o
  flip_loose None None h = tt
  flip_loose None (Some b) h = tt
  flip_loose (Some a) None h = tt
  flip_loose (Some a) (Some b) h = under_flip (dual k) a b h

  loosen : (o q l : Option C) (c : C) → UnderAt k o (option_map (λ _. c) q) → Covers k c l → Loose k o l
  loosen None q l c h i = tt
  loosen (Some a) None l c h i = absurd h
  loosen (Some a) (Some b) l c h i = covers_trans k a c l h i

  tighten : (look : Point → Option C) (ps : List Point) (o q : Option C) (c : C) → UnderAt k (option_map (λ _. c) o) q →
      ((p : Point) → Among ps p → Loose k o (look p)) →
      UnderAt k o (option_map (λ _. meets k (map look ps)) q)
  tighten look ps None None c s h = tt
  tighten look ps None (Some b) c s h = s
  tighten look ps (Some a) None c s h = s
  tighten look ps (Some a) (Some b) c s h = under_meets k look ps a h

  spread : (go : ℤ → ℤ → ℤ) (ps : List Point) (f g : Sheet C) → UnderSheet k f (gathered k go ps g) → Spread k go ps f g
  unfolding gathered
  spread go ps f g h (negsuc x) y p i = tt
  spread go ps f g h (pos x) (negsuc y) p i = tt
  spread go ps f g h (pos x) (pos y) p i = loosen (f.cell x y) (g.cell x y) (seen go g (pos x) (pos y) p) _ (h.cells x y)
      (meets_under k (seen go g (pos x) (pos y)) ps p i)

-- one half; the other is this one in the dual lattice, with the steps exchanged
half : {C : Type 0} (k : Lattice C) (st : Steps) (ps : List Point) (f g : Sheet C) →
    UnderSheet k (gathered (dual k) st.back ps f) g → UnderSheet k f (gathered k st.go ps g)
unfolding gathered
half k st ps f g h = record {
  width = h.width;
  height = h.height;
  cells = λ x y.
      tighten k (seen st.go g (pos x) (pos y)) ps (f.cell x y) (g.cell x y) _ (h.cells x y) (λ p i.
      flip_loose k (seen st.go g (pos x) (pos y) p) (f.cell x y)
      (subst₂ (λ a b. Loose (dual k) (seen st.go g (pos x) (pos y) p) (at f a b)) (st.undo (pos x) p.u) (st.undo (pos y) p.v)
      (spread (dual k) st.back ps g f (flip_sheet k (gathered (dual k) st.back ps f) g h)
      (st.go (pos x) p.u) (st.go (pos y) p.v) p i)));
}

pub adjoint : {C : Type 0} (k : Lattice C) (st : Steps) (ps : List Point) (f g : Sheet C) →
    UnderSheet k (gathered (dual k) st.back ps f) g ↔ UnderSheet k f (gathered k st.go ps g)
adjoint k st ps f g = (
  half k st ps f g,
  λ h. flip_sheet (dual k) g (gathered (dual k) st.back ps f)
      (half (dual k) (exchanged st) ps g f (flip_sheet k f (gathered k st.go ps g) h)),
)

pub adjunction : {C : Type 0} (k : Lattice C) → Adjunction k
adjunction k = adjoint k plus
