-- What a gathered sheet is, for those who leave the definition shut: its size, and its cell at each place.
use Rattle.std.proofs.Common.{◌≡◌, ℕ, List, [], ◌∷◌, map, ℤ, pos, ◌+ℤ◌, refl, ap}
use Rattle.std.specs.Option.{option_map}
use Rattle.cells.specs.Lattice.{Lattice, dual}
use Rattle.masks.specs.Points.{turned}
use Rattle.masks.specs.declared.point.Point.{Point}
use Rattle.sheets.specs.Sheet.{Sheet}
use Rattle.sheets.proofs.Equal.{same_sheet}
use Rattle.morphology.specs.Bounds.{meets}
use Rattle.morphology.specs.Filters.{seen, gathered}
use Rattle.morphology.specs.Laws.{Turning}

module _ {C : Type 0} (k : Lattice C) (go : ℤ → ℤ → ℤ) (ps : List Point) (f : Sheet C) where
  pub gathered_width : (gathered k go ps f).width ≡ f.width
  unfolding gathered
  gathered_width = refl

  pub gathered_height : (gathered k go ps f).height ≡ f.height
  unfolding gathered
  gathered_height = refl

  pub gathered_cell : (x y : ℕ) → (gathered k go ps f).cell x y ≡ option_map (λ _. meets k (map (seen go f (pos x) (pos y)) ps)) (f.cell x y)
  unfolding gathered
  gathered_cell x y = refl

map_turned : {A : Type 0} (look : Point → A) (ps : List Point) → map (λ p. look (turned p)) ps ≡ map look (map turned ps)
map_turned look [] = refl
map_turned look (p ∷ ps) = ap (λ os. look (turned p) ∷ os) (map_turned look ps)

-- to subtract an offset is to add the turned one
pub turning : {C : Type 0} (k : Lattice C) → Turning k
unfolding gathered
turning k ps f = same_sheet _ _ refl refl (λ x y. ap (λ os. option_map (λ _. meets (dual k) os) (f.cell x y))
    (map_turned (seen ◌+ℤ◌ f (pos x) (pos y)) ps))
