-- What a find lists and answers.
--     note n qs xs                 xs with the places qs written one after the other from n on, as far as xs goes
--     RowHits k f y fs bs n qs     qs are the columns below n of row y in which the fore pick is strictly above the back pick
--     listed hits xs               xs with the earliest hits over its front, as far as it goes
--     Found k fore back f v xs xs' r   by the verdict v, xs' and r are the list and the answer that a find on f leaves
use Rattle.std.specs.Prelude.{◌≡◌, ℕ, suc, ◌<◌, ◌↔◌, List, [], ◌∷◌, length, take, slice_set, Ok, Err, Result}
use Rattle.cells.specs.Lattice.{Lattice, Above}
use Rattle.masks.specs.Points.{Among}
use Rattle.masks.specs.declared.mask.Mask.{Mask}
use Rattle.sheets.specs.Sheet.{Sheet}
use Rattle.morphology.specs.Filters.{points_of}
use Rattle.morphology.specs.Find.{InRowOrder, HitList, find_picks}
use Rattle.morphology.specs.declared.place.Place.{Place}
use Rattle.morphology.specs.declared.refusal.Refusal.{Refusal}
use Rattle.filters.specs.Side.{cell_at}
use Rattle.filters.specs.Lists.{written}

-- a place past the end is not written
abbrev pub note : ℕ → List Place → List Place → List Place
note n [] xs = xs
note n (q ∷ qs) xs = note (suc n) qs (slice_set xs n q)

-- the picks of a row, beside each other
pub record RowHits {K C : Type 0} (k : Lattice C) (f : K → C) (y : ℕ) (fores backs : List K) (n : ℕ) (qs : List Place) : Type 0 where
  pub just : (p : Place) → Among qs p ↔ ((p.y ≡ y) × (p.x < n) × Above k (cell_at f k.least fores p.x) (cell_at f k.greatest backs p.x))
  pub order : InRowOrder qs

-- as many of them as the list has places
abbrev pub listed : List Place → List Place → List Place
listed hits xs = written (take (length xs) hits) xs

-- every hit is counted, also those that the list has no place for; a refusal is the answer, and the list stays
abbrev pub Found : {C : Type 0} → Lattice C → Mask → Mask → Sheet C → Result Mask Refusal → List Place → List Place → Result (ℕ × ℕ) Refusal → Type 0
Found k fore back f (Ok m) xs xs' r =
    (hits : List Place) × HitList k (points_of fore) (points_of back) f hits × (r ≡ Ok (length hits, find_picks fore back f.width f.height)) × (xs' ≡ listed hits xs)
Found k fore back f (Err why) xs xs' r = (r ≡ Err why) × (xs' ≡ xs)
