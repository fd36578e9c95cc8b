-- What is known of a course whose plan, width and padding are known, and of the rows of its ring.
use Rattle.std.proofs.Common.{◌≡◌, ℕ, ◌+◌, ◌-◌, ◌*◌, ◌<◌, ◌≤◌, List, length, slice_range, sym, ap, ◌∙◌, subst, ap₂, arith}
use Rattle.masks.specs.Cost.{line_picks}
use Rattle.plans.specs.declared.plan.Plan.{Plan}
use Rattle.cells.specs.Lattice.{Lattice}
use Rattle.sheets.specs.Sheet.{Sheet}
use Rattle.plans.specs.Shown.{lengths_of, chords_of}
use Rattle.filters.specs.declared.course.Course.{Course}
use Rattle.filters.specs.declared.ring.Ring.{Ring}
use Rattle.filters.specs.Side.{cell_at}
use Rattle.filters.specs.Sweep.{Gathered, Stands, Laid}
use Rattle.filters.proofs.Entries.{at_range, length_range}
use Rattle.filters.proofs.Rooms.{slot_room, part_room}

-- the course goes by the plan p, on a sheet w wide, and what it pads with means z
pub record Goes {K C : Type 0} (f : K → C) (z : C) (p : Plan) (w : ℕ) (c : Course K) : Type 0 where
  pub plan : c.plan ≡ p
  pub width : c.width ≡ w
  pub pad : f c.pad ≡ z

module _ {K C : Type 0} (f : K → C) (z : C) (p : Plan) (w : ℕ) where
  pub goes_same : (d c : Course K) → d ≡ c → Goes f z p w c → Goes f z p w d
  goes_same d c e G = record {
    plan = ap (λ (x : Course K). x.plan) e ∙ G.plan;
    width = ap (λ (x : Course K). x.width) e ∙ G.width;
    pad = ap (λ (x : Course K). f x.pad) e ∙ G.pad;
  }

  module _ (c : Course K) (G : Goes f z p w c) where
    pub table_is : c.plan.rows * length (lengths_of c.plan) * (c.width + 30) ≡ p.rows * length (lengths_of p) * (w + 30)
    table_is = ap₂ (λ (q : Plan) (v : ℕ). q.rows * length (lengths_of q) * (v + 30)) G.plan G.width

    pub first_picks : (c.plan.rows - 1) * line_picks c.width (lengths_of c.plan) ≡ (p.rows - 1) * line_picks w (lengths_of p)
    first_picks = ap₂ (λ (q : Plan) (v : ℕ). (q.rows - 1) * line_picks v (lengths_of q)) G.plan G.width

    pub row_picks : line_picks c.width (lengths_of c.plan) + c.width * (length (chords_of c.plan) - 1) ≡ line_picks w (lengths_of p) + w * (length (chords_of p) - 1)
    row_picks = ap₂ (λ (q : Plan) (v : ℕ). line_picks v (lengths_of q) + v * (length (chords_of q) - 1)) G.plan G.width

    pub laid_gathered : (k : Lattice C) (s : Sheet K) (t : List K) (start y : ℕ) → Laid k f c s t start y → Gathered k f z s p w t start y
    laid_gathered k s t start y L =
        subst (λ v. Gathered k f v s p w t start y) G.pad
        (subst (λ (n : ℕ). Gathered k f (f c.pad) s p n t start y) G.width
        (subst (λ (q : Plan). Gathered k f (f c.pad) s q c.width t start y) G.plan L))

  -- the row that was gathered is as long as the sheet is wide, and is what the table has in the ring's slot
  module _ (r : Ring K) (G : Goes f z p w r.course) (table row : List K) (room : p.rows * length (lengths_of p) * (w + 30) ≤ length table)
      (is : row ≡ slice_range table (r.slot * length (lengths_of r.course.plan) * (r.course.width + 30)) (r.slot * length (lengths_of r.course.plan) * (r.course.width + 30) + r.course.width)) where
    has_room : r.slot * length (lengths_of r.course.plan) * (r.course.width + 30) + r.course.width ≤ length table
    has_room =
        let q = r.course.plan in
        omega (arith, room, table_is r.course G, slot_room r.slot q.rows (length (lengths_of q)) (r.course.width + 30) r.due, part_room 0 (length (lengths_of q)) (r.course.width + 30) q.sound.some_length)

    pub row_long : length row ≡ w
    row_long = ap length is ∙ length_range table (r.slot * length (lengths_of r.course.plan) * (r.course.width + 30)) r.course.width has_room ∙ G.width

    pub row_cell : (a b : C) (x : ℕ) → x < w → cell_at f a row x ≡ cell_at f b table (r.slot * length (lengths_of r.course.plan) * (r.course.width + 30) + x)
    row_cell a b x h =
        ap (λ (l : List K). cell_at f a l x) is
        ∙ at_range f a b table (r.slot * length (lengths_of r.course.plan) * (r.course.width + 30)) r.course.width x (omega (arith, G.width)) has_room

-- a ring that has just its first lines, and one whose row has been gathered, stand for the row that comes next
pub stands_first : {K C : Type 0} (k : Lattice C) (f : K → C) (s : Sheet K) (d c : Course K) (t : List K) (slot : ℕ) → d ≡ c → slot ≡ c.plan.rows - 1 →
    Stands k f c s t (c.plan.rows - 1) (c.plan.rows - 1) (c.plan.rows - 1) → Stands k f d s t slot (0 + d.plan.rows - 1) (d.plan.rows - 1)
stands_first {K} k f s d c t slot e at R =
    let from : c.plan.rows - 1 ≡ 0 + c.plan.rows - 1 = omega arith in
    subst (λ (x : Course K). Stands k f x s t slot (0 + x.plan.rows - 1) (x.plan.rows - 1)) (sym e)
    (subst (λ (n : ℕ). Stands k f c s t n (0 + c.plan.rows - 1) (c.plan.rows - 1)) (sym at) (subst (λ (n : ℕ). Stands k f c s t (c.plan.rows - 1) n (c.plan.rows - 1)) from R))

pub stands_next : {K C : Type 0} (k : Lattice C) (f : K → C) (s : Sheet K) (d c : Course K) (t : List K) (slot y : ℕ) → d ≡ c →
    Stands k f c s t slot (y + c.plan.rows) (c.plan.rows - 1) → Stands k f d s t slot (y + 1 + d.plan.rows - 1) (d.plan.rows - 1)
stands_next {K} k f s d c t slot y e R =
    let after : y + c.plan.rows ≡ y + 1 + c.plan.rows - 1 = omega arith in
    subst (λ (x : Course K). Stands k f x s t slot (y + 1 + x.plan.rows - 1) (x.plan.rows - 1)) (sym e) (subst (λ (n : ℕ). Stands k f c s t slot n (c.plan.rows - 1)) after R)
