-- Two worksheets of any two kinds that match still match after the same calls.
--     Matches h f g           sheets of one size: h takes each cell of f to the cell of g at that place
--     MatchingStates h s t    their sheets match, and one mask lies on both, or none
--     Matching k l            every lattice map keeps such a match, and the answers are the same
use Rattle.std.specs.Prelude.{◌≡◌, ℕ, List}
use Rattle.std.specs.Option.{option_map}
use Rattle.cells.specs.Lattice.{Lattice, LatticeMap}
use Rattle.sheets.specs.Sheet.{Sheet}
use Rattle.morphology.specs.Calls.{State, run, answers}
use Rattle.morphology.specs.declared.call.Call.{Call}

-- cells at the same places, each taken by h to the other
pub record Matches {A B : Type 0} (h : A → B) (f : Sheet A) (g : Sheet B) : Type 0 where
  pub width : f.width ≡ g.width
  pub height : f.height ≡ g.height
  pub cells : (x y : ℕ) → option_map h (f.cell x y) ≡ g.cell x y

-- new worksheets with sheets that match are such states
pub record MatchingStates {A B : Type 0} (h : A → B) (s : State A) (t : State B) : Type 0 where
  pub sheet : Matches h s.sheet t.sheet
  pub mask : s.mask ≡ t.mask

-- for every list of lay, erode, dilate, open and close; the mask may change from lay to lay
pub record Matching {A B : Type 0} (k : Lattice A) (l : Lattice B) : Type 0 where
  pub states : (h : A → B) → LatticeMap k l h → (cs : List Call) (s : State A) (t : State B) → MatchingStates h s t →
      MatchingStates h (run k cs s) (run l cs t)
  pub replies : (h : A → B) → LatticeMap k l h → (cs : List Call) (s : State A) (t : State B) → MatchingStates h s t →
      answers k cs s ≡ answers l cs t
