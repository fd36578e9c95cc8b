-- The row before column x is what the list has.
use Rattle.std.proofs.Common.{◌≡◌, ℕ, ◌-◌, ◌<◌, ◌≤◌, true, ◌≢◌, length, Some}
use Rattle.std.specs.Option.{option_map}
use Rattle.sheets.specs.Sheet.{has}
use Rattle.filters.specs.Side.{cell_at}
use Rattle.filters.proofs.row.put_row.Given as goal

abbrev pub invariant-loop-x : goal.invariant-loop-x
invariant-loop-x g l =
    ((g.H.Holder.sheet l.h).width ≡ (g.H.Holder.sheet l.initial.h).width) ×
    ((g.H.Holder.sheet l.h).height ≡ (g.H.Holder.sheet l.initial.h).height) ×
    ((z : g.H.Cell.Kind.Cell) (k : ℕ) → k < l.x → option_map g.H.Cell.Kind.means ((g.H.Holder.sheet l.h).cell k l.y) ≡ Some (cell_at g.H.Cell.Kind.means z l.row k)) ×
    ((i j : ℕ) → length l.row ≤ i → (g.H.Holder.sheet l.h).cell i j ≡ (g.H.Holder.sheet l.initial.h).cell i j) ×
    ((i j : ℕ) → j ≢ l.y → (g.H.Holder.sheet l.h).cell i j ≡ (g.H.Holder.sheet l.initial.h).cell i j) ×
    ((x : ℕ) → x < length l.row → has (g.H.Holder.sheet l.h) x l.y ≡ true)

abbrev pub decreases-loop-x : goal.decreases-loop-x
decreases-loop-x g l = length l.row - l.x
