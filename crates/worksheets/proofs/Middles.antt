-- The mid of a worksheet: opened here, closed there, and blended.
use Rattle.std.proofs.Common.{◌≡◌, ℕ, Bool, true, false, cond, ◌&&◌, ◌==◌, nat_lt, if◌then◌else◌, List, length, ℤ, is_some, Some, None, Ok, Err, Option, sym, refl, ap, ◌∙◌, subst, ap₂, arith}
use Rattle.std.specs.Option.{option_map}
use Rattle.std.proofs.lemmas.Bool.Decides.{nat_tests}
use Rattle.cells.specs.Lattice.{Lattice}
use Rattle.masks.specs.Cost.{table_cells}
use Rattle.masks.specs.declared.mask.Mask.{Mask}
use Rattle.masks.specs.declared.point.Point.{Point}
use Rattle.sheets.specs.Sheet.{Sheet, has, inside, Whole, shown}
use Rattle.morphology.specs.Calls.{filtered, picks, verdict, sheet_by, answered_by}
use Rattle.morphology.specs.Filters.{opened, closed}
use Rattle.morphology.specs.Mid.{HalfwayAt, MidSheet, Between}
use Rattle.morphology.specs.Order.{UnderAt, UnderSheet}
use Rattle.morphology.specs.Refusals.{fits, sized, by_mask, judged, and_then}
use Rattle.morphology.specs.declared.call.Filter.{Filter}
use Rattle.morphology.specs.declared.refusal.Refusal.{Refusal}
use Rattle.morphology.specs.declared.refusal.Refusal.TheVariants.{WrongSize, ShortTable, UnlikeSizes}
use Rattle.morphology.proofs.Mids.{halfway_between, opened_closed}
use Rattle.morphology.proofs.Sheets.{openings}
use Rattle.worksheets.specs.declared.worksheet.Worksheet.{Worksheet}
use Rattle.worksheets.specs.Mid.{BlendedAt, Blended, judged_sheets}
use Rattle.worksheets.specs.Performed.{state, Performed}

-- at one place
module _ {K C : Type 0} (k : Lattice C) (f : K → C) (level : K → ℤ) where
  halfway_at : (u v t : Option K) → UnderAt k (option_map f u) (option_map f v) → BlendedAt k f level u v t → HalfwayAt f level (option_map f u) (option_map f v) t
  halfway_at None None None o b = tt
  halfway_at None None (Some t) o b = cc
  halfway_at None (Some v) t o b = absurd o
  halfway_at (Some u) None t o b = absurd o
  halfway_at (Some u) (Some v) None o b = absurd b
  halfway_at (Some u) (Some v) (Some t) o b = (u, v, refl, refl, b.0)

  between_at : (u v t : Option K) → UnderAt k (option_map f u) (option_map f v) → BlendedAt k f level u v t → UnderAt k (option_map f u) (option_map f t) × UnderAt k (option_map f t) (option_map f v)
  between_at None None None o b = (tt, tt)
  between_at None None (Some t) o b = cc
  between_at None (Some v) t o b = absurd o
  between_at (Some u) None t o b = absurd o
  between_at (Some u) (Some v) None o b = absurd b
  between_at (Some u) (Some v) (Some t) o b = halfway_between k f level b.1 u v t b.0 o

  -- a place without a cell is blended as it stands
  nothing_at : (u v : Option K) → is_some u ≡ false → BlendedAt k f level u v u
  nothing_at None v e = refl
  nothing_at (Some u) v e = cc

has_shown : {K C : Type 0} (f : K → C) (o : Option K) → is_some (option_map f o) ≡ is_some o
has_shown f None = refl
has_shown f (Some c) = refl

-- all of the sheet: u is opened, v is closed, t is blended of both
module _ {K C : Type 0} (k : Lattice C) (f : K → C) (level : K → ℤ) (ps : List Point) (s u v t : Sheet K) (W : Whole s)
    (O : shown f u ≡ opened k ps (shown f s)) (V : shown f v ≡ closed k ps (shown f s)) (B : Blended k f level (inside u.width u.height) u v t) where
  order : UnderSheet k (shown f u) (shown f v)
  order = subst (λ (g : Sheet C). UnderSheet k g (shown f v)) (sym O) (subst (UnderSheet k (opened k ps (shown f s))) (sym V) (opened_closed k ps (shown f s)))

  u_width : u.width ≡ s.width
  u_width = ap (λ (g : Sheet C). g.width) O ∙ ((openings k).opened_under ps (shown f s)).width

  u_height : u.height ≡ s.height
  u_height = ap (λ (g : Sheet C). g.height) O ∙ ((openings k).opened_under ps (shown f s)).height

  -- the opening has cells where the sheet has them
  same_has : (o p : Option C) → UnderAt k o p → is_some o ≡ is_some p
  same_has None None h = refl
  same_has None (Some p) h = absurd h
  same_has (Some o) None h = absurd h
  same_has (Some o) (Some p) h = refl

  u_has : (x y : ℕ) → is_some (u.cell x y) ≡ inside u.width u.height x y
  u_has x y =
      sym (has_shown f (u.cell x y))
      ∙ ap (λ (g : Sheet C). has g x y) O
      ∙ same_has ((opened k ps (shown f s)).cell x y) (option_map f (s.cell x y)) (((openings k).opened_under ps (shown f s)).cells x y)
      ∙ has_shown f (s.cell x y)
      ∙ W x y
      ∙ ap₂ (λ (w h : ℕ). inside w h x y) (sym u_width) (sym u_height)

  blended_all : (x y : ℕ) (b : Bool) → inside u.width u.height x y ≡ b → BlendedAt k f level (u.cell x y) (v.cell x y) (t.cell x y)
  blended_all x y true e = B.blended x y e
  blended_all x y false e = subst (BlendedAt k f level (u.cell x y) (v.cell x y)) (sym (B.left x y e)) (nothing_at k f level (u.cell x y) (v.cell x y) (u_has x y ∙ e))

  pub mid_sheet : MidSheet k f level ps (shown f s) t
  mid_sheet = record {
    width = B.width ∙ u_width;
    height = B.height ∙ u_height;
    cells = λ x y.
        subst (λ (g : Sheet C). HalfwayAt f level (g.cell x y) ((closed k ps (shown f s)).cell x y) (t.cell x y)) O
        (subst (λ (g : Sheet C). HalfwayAt f level (option_map f (u.cell x y)) (g.cell x y) (t.cell x y)) V
        (halfway_at k f level (u.cell x y) (v.cell x y) (t.cell x y) (order.cells x y) (blended_all x y (inside u.width u.height x y) refl)));
  }

  pub mid_between : Between k f ps (shown f s) t
  mid_between =
      let at = λ (x y : ℕ). between_at k f level (u.cell x y) (v.cell x y) (t.cell x y) (order.cells x y) (blended_all x y (inside u.width u.height x y) refl) in (
        subst (λ (g : Sheet C). UnderSheet k g (shown f t)) O (record { width = sym B.width; height = sym B.height; cells = λ x y. (at x y).0 }),
        subst (UnderSheet k (shown f t)) V (record { width = B.width ∙ order.width; height = B.height ∙ order.height; cells = λ x y. (at x y).1 }),
      )

-- a filter that goes ahead
module _ {K C S : Type 0} (k : Lattice C) (f : K → C) (sheet : S → Sheet K) (q : Filter) (w w1 : Worksheet S) (t t1 : List K) (a : ℕ) (m : Mask) (goes : Ok m ≡ verdict (state f sheet w) (length t))
    (P : Performed k f sheet q w w1 t t1 (Ok a)) where
  after_filter : state f sheet w1 ≡ record { sheet = filtered k q m (shown f (sheet w.holder)); mask = w.mask }
  after_filter = P.after ∙ ap (λ v. record { sheet = sheet_by k q v (shown f (sheet w.holder)); mask = w.mask }) (sym goes)

  pub leaves : shown f (sheet w1.holder) ≡ filtered k q m (shown f (sheet w.holder))
  leaves = ap (λ s. s.sheet) after_filter

  pub mask_stays : w1.mask ≡ w.mask
  mask_stays = ap (λ s. s.mask) after_filter

  pub picks_made : a ≡ picks q m (sheet w.holder).width (sheet w.holder).height
  picks_made =
      let q : Ok a ≡ Ok (picks q m (sheet w.holder).width (sheet w.holder).height) =
      P.answer ∙ ap (λ v. answered_by q v (sheet w.holder).width (sheet w.holder).height) (sym goes) in
      cc

-- what it goes ahead under is the mask that lies
one_mask : (short : Bool) (r : Refusal) (l m : Mask) → Ok m ≡ cond short (Err r) (Ok l) → l ≡ m
one_mask true r l m e = absurd (let z : ◌≡◌ {A = ℕ} 0 1 = cc in omega arith)
one_mask false r l m e = cc

goes_by : (fit : Bool) (r : Refusal) (w n : ℕ) (o : Option Mask) (m : Mask) → Ok m ≡ cond fit (by_mask w o n) (Err r) → Ok m ≡ cond fit (by_mask w (Some m) n) (Err r)
goes_by false r w n o m e = e
goes_by true r w n None m e = absurd (let z : ◌≡◌ {A = ℕ} 0 1 = cc in omega arith)
goes_by true r w n (Some l) m e =
    let same = one_mask (nat_lt n (table_cells l.rows w)) (ShortTable (table_cells l.rows w) n) l m e in
    subst (λ (i : Mask). Ok m ≡ by_mask w (Some i) n) same e

pub goes_under : (w h n : ℕ) (o : Option Mask) (m : Mask) → Ok m ≡ judged w h o n → Ok m ≡ judged w h (Some m) n
goes_under w h n o m e = goes_by (fits w && fits h) (WrongSize (sized w h)) w n o m e

-- the copy, where both sheets are of one size
pub copied : {K : Type 0} (s t u : Sheet K) (b : Bool) → b ≡ true → u ≡ (if b then s else t) → u ≡ s
copied s t u true e h = h
copied s t u false e h = cc

-- a mid goes ahead where a filter does, and the sheets are of one size
pub mid_goes : {K : Type 0} (s t : Sheet K) (mask : Option Mask) (n : ℕ) (m : Mask) → Ok m ≡ judged s.width s.height mask n → s.width ≡ t.width → s.height ≡ t.height → judged_sheets s t mask n ≡ Ok m
mid_goes s t mask n m e ew eh =
    let same : (s.width == t.width && s.height == t.height) ≡ true = grind (arith, nat_tests) in
    ap (λ v. and_then v (λ n. cond (s.width == t.width && s.height == t.height) (Ok n) (Err (UnlikeSizes (sized s.width s.height) (sized t.width t.height))))) (sym e)
    ∙ ap (λ (b : Bool). cond b (Ok m) (Err (UnlikeSizes (sized s.width s.height) (sized t.width t.height)))) same
