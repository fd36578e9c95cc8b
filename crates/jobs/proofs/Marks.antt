-- What a mask is asked for depends on its marks alone.
use Rattle.std.proofs.Common.{◌≡◌, ℕ, zero, suc, ◌+◌, ◌-◌, ◌*◌, Bool, not, ◌&&◌, List, map, length, pos, ◌-ℤ◌, filter, unsigned_abs, ap, ◌∙◌}
use mathlib.Core.Path.{fun_ext}
use Rattle.std.specs.List.{range_with_len, flat_map, prefix_len}
use Rattle.masks.specs.Points.{point_at}
use Rattle.masks.specs.Rows.{marked, columns, points}
use Rattle.masks.specs.Chords.{run, starts_at, starts, chord_at, chords}
use Rattle.masks.specs.Cost.{southmost, northmost, spanned, table_cells, line_picks, filter_picks}
use Rattle.masks.specs.Lengths.{lengths}
use Rattle.masks.specs.declared.point.Point.{Point}
use Rattle.masks.specs.declared.chord.Chord.{Chord}

module _ (xs ys : List ℕ) (e : marked xs ≡ marked ys) where
  pub points_same : points xs 31 ≡ points ys 31
  unfolding points columns
  points_same = ap (λ (m : ℕ → ℕ → Bool). flat_map (λ r. map (λ c. point_at c r) (filter (λ c. m c r) (range_with_len 0 31))) (range_with_len 0 31)) e

  run_same : (c r : ℕ) → run xs c r ≡ run ys c r
  unfolding run
  run_same c r = ap (λ (m : ℕ → ℕ → Bool). prefix_len (λ k. m k r) (range_with_len c 31)) e

  start_same : (r c : ℕ) → starts_at xs r c ≡ starts_at ys r c
  start_same r zero = ap (λ (m : ℕ → ℕ → Bool). m 0 r) e
  start_same r (suc c) = ap (λ (m : ℕ → ℕ → Bool). m (suc c) r && not (m c r)) e

  starts_same : (r : ℕ) → starts xs r 31 ≡ starts ys r 31
  unfolding starts
  starts_same r = ap (λ (p : ℕ → Bool). filter p (range_with_len 0 31)) (fun_ext (start_same r))

  chord_same : (r c : ℕ) → chord_at xs r c ≡ chord_at ys r c
  chord_same r c = let one : ℕ → Chord = λ n. record { v = pos r -ℤ pos 15; start = pos c -ℤ pos 15; length = n } in ap one (run_same c r)

  row_same : (r : ℕ) → map (chord_at xs r) (starts xs r 31) ≡ map (chord_at ys r) (starts ys r 31)
  row_same r = ap (λ (cs : List ℕ). map (chord_at xs r) cs) (starts_same r) ∙ ap (λ (f : ℕ → Chord). map f (starts ys r 31)) (fun_ext (chord_same r))

  pub chords_same : chords xs 31 ≡ chords ys 31
  unfolding chords
  chords_same = ap (λ (f : ℕ → List Chord). flat_map f (range_with_len 0 31)) (fun_ext row_same)

  spanned_same : spanned xs ≡ spanned ys
  unfolding spanned
  spanned_same = ap (λ (ps : List Point). unsigned_abs (southmost ps -ℤ northmost ps) + 1) points_same

  pub table_same : (w : ℕ) → table_cells xs w ≡ table_cells ys w
  unfolding table_cells
  table_same w =
      ap (λ (v : ℕ). v * length (lengths (chords xs 31)) * (w + 30)) spanned_same
      ∙ ap (λ (cs : List Chord). spanned ys * length (lengths cs) * (w + 30)) chords_same

  pub filter_same : (w h : ℕ) → filter_picks xs w h ≡ filter_picks ys w h
  unfolding filter_picks
  filter_same w h =
      ap (λ (v : ℕ). (h + v - 1) * line_picks w (lengths (chords xs 31)) + w * h * (length (chords xs 31) - 1)) spanned_same
      ∙ ap (λ (cs : List Chord). (h + spanned ys - 1) * line_picks w (lengths cs) + w * h * (length cs - 1)) chords_same
