-- Filtering by two sorts under one mask, and the four sheets that this can show, by name.
--     filter_of q       the filter of a sort
--     by_sort k m q f   what it makes of the sheet f under the mask m
--     other q           the other sort
--     named by n f      the sheet that the name n says, made from the loaded sheet f, where `by` filters by a sort
--     Follows k q n n'  a filter of the sort q makes the sheet n' of the sheet n
use Rattle.std.specs.Prelude.{◌≡◌}
use Rattle.cells.specs.Lattice.{Lattice}
use Rattle.masks.specs.declared.mask.Mask.{Mask}
use Rattle.sheets.specs.Sheet.{Sheet}
use Rattle.morphology.specs.Calls.{filtered}
use Rattle.morphology.specs.declared.call.Filter.{Filter}
use Rattle.morphology.specs.declared.call.Filter.TheVariants.{Open, Close}
use Rattle.morphology.specs.declared.standing.Sort.{Sort}
use Rattle.morphology.specs.declared.standing.Sort.TheVariants.{Opening, Closing}
use Rattle.morphology.specs.declared.standing.Standing.{Standing}
use Rattle.morphology.specs.declared.standing.Standing.TheVariants.{Loaded, Once, Twice, Thrice}

-- the filter of a sort
abbrev pub filter_of : Sort → Filter
filter_of Opening = Open
filter_of Closing = Close

-- what it makes of a sheet under the mask m
abbrev pub by_sort : {C : Type 0} → Lattice C → Mask → Sort → Sheet C → Sheet C
by_sort k m q = filtered k (filter_of q) m

-- the other sort
abbrev pub other : Sort → Sort
other Opening = Closing
other Closing = Opening

-- as loaded; filtered by a sort; then by the other; then by the first again
abbrev pub named : {S : Type 0} → (Sort → S → S) → Standing → S → S
named by Loaded f = f
named by (Once q) f = by q f
named by (Twice q) f = by (other q) (by q f)
named by (Thrice q) f = by q (by (other q) (by q f))

-- on every loaded sheet, and under every mask
abbrev pub Follows : {C : Type 0} → Lattice C → Sort → Standing → Standing → Type 0
Follows {C} k q n n' = (m : Mask) (f : Sheet C) → by_sort k m q (named (by_sort k m) n f) ≡ named (by_sort k m) n' f
