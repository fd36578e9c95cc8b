-- What does not hold: at the edge of a sheet, two erosions in a row are not one erosion by the summed points.
--     summed ps qs     each point of ps added to each of qs
--     EdgeExample      gray 7 9, eroded by the west point and then by the east point
use Rattle.std.specs.Prelude.{◌≡◌, List, [], ◌∷◌, map, ◌+ℤ◌}
use Rattle.std.specs.List.{flat_map}
use Rattle.cells.specs.Kinds.{grays}
use Rattle.masks.specs.declared.point.Point.{Point}
use Rattle.morphology.specs.Filters.{eroded}
use Rattle.morphology.specs.RowSheets.{row, Shows, east, west}

-- two offsets, one after the other
abbrev pub sum : Point → Point → Point
sum p q = record { u = p.u +ℤ q.u; v = p.v +ℤ q.v }

-- each of the first with each of the second
abbrev pub summed : List Point → List Point → List Point
summed ps qs = flat_map (λ p. map (sum p) qs) ps

-- the sum of west and east is the origin, which alters nothing; but the first erosion has lost the east cell
pub record EdgeExample : Type 0 where
  pub twice : Shows (eroded grays (east ∷ []) (eroded grays (west ∷ []) (row (7 ∷ 9 ∷ [])))) (7 ∷ 255 ∷ [])
  pub once : Shows (eroded grays (summed (west ∷ []) (east ∷ [])) (row (7 ∷ 9 ∷ []))) (7 ∷ 9 ∷ [])
  pub unlike : eroded grays (east ∷ []) (eroded grays (west ∷ []) (row (7 ∷ 9 ∷ []))) ≡
      eroded grays (summed (west ∷ []) (east ∷ [])) (row (7 ∷ 9 ∷ [])) → ⊥
