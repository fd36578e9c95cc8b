-- A row more is listed. When all rows are, the list is that of all hits.
use Rattle.std.proofs.Common.{◌≡◌, ℕ, ◌+◌, ◌-◌, ◌*◌, ◌<◌, ◌≤◌, ◌++◌, List, [], length, sym, refl, ap, ◌∙◌, subst, ap₂, arith}
use Rattle.std.proofs.lemmas.List.{length-append}
use Rattle.cells.specs.Lattice.{dual}
use Rattle.masks.specs.Cost.{line_picks}
use Rattle.sheets.specs.Sheet.{shown}
use Rattle.morphology.specs.declared.place.Place.{Place}
use Rattle.plans.specs.Shown.{lengths_of, chords_of}
use Rattle.filters.specs.Find.{RowHits, note}
use Rattle.filters.specs.Line.{entry}
use Rattle.filters.specs.declared.course.Course.{Course}
use Rattle.filters.proofs.Courses.{Goes, goes_same, first_picks, row_picks, laid_gathered, row_long, row_cell, stands_first, stands_next}
use Rattle.filters.proofs.Hits.{hits_more, hits_all}
use Rattle.filters.proofs.Notes.{note_more, note_listed}
use Rattle.filters.proofs.Rooms.{times_more, rows_picks}
use Rattle.filters.proofs.Sights.{row_says, has_inside}
use Rattle.filters.proofs.find.scan.Goals as goal

pub list_row-hits-requires : goal.list_row-hits-requires
list_row-hits-requires g c =
    let k = g.H.Cell.Kind.lattice in
    let f = g.H.Cell.Kind.means in
    let p = c.args.fore in
    let q = c.args.back in
    let w = c.args.size.width in
    let forth = c.next_row-picks in
    let back = c.next_row-picks-in-loop-y in
    let I = c.loop-y.invariant in
    let F = goes_same f k.least p w forth.new.self.course c.loop-y.fore.course forth.ensures.course I.2 in
    let B = goes_same f k.greatest q w back.new.self.course c.loop-y.back.course back.ensures.course I.3 in
    let wide : length c.row.result.now ≡ w = row_long f k.least p w forth.new.self F forth.new.table c.row.result.now
    (omega (arith, c.requires.fore, I.0, c.first_lines-picks.auto.table, forth.auto.table)) c.row.ensures in
    let wide' : length c.row-in-loop-y.result.now ≡ w = row_long f k.greatest q w back.new.self B back.new.table c.row-in-loop-y.result.now
    (omega (arith, c.requires.back, I.1, c.first_lines-picks-2.auto.table, back.auto.table)) c.row-in-loop-y.ensures in
    record { sizes = (wide ∙ sym wide', (omega (arith, wide, c.requires.size.0), omega (arith, I.4, c.requires.size.1.0))) }

pub loop-y-init : goal.loop-y-init
loop-y-init g c =
    let k = g.H.Cell.Kind.lattice in
    let f = g.H.Cell.Kind.means in
    let s = g.H.Holder.sheet c.args.h.now in
    let p = c.args.fore in
    let q = c.args.back in
    let w = c.args.size.width in
    let fore = c.new-fore.result.course in
    let back = c.new-back.result.course in
    let forth = c.first_lines-picks in
    let back_first = c.first_lines-picks-2 in
    let F : Goes f k.least p w fore = record { plan = c.new-fore.ensures.plan; width = c.new-fore.ensures.width; pad = ap f c.new-fore.ensures.pad ∙ c.least-least.ensures } in
    let B : Goes f k.greatest q w back = record { plan = c.new-back.ensures.plan; width = c.new-back.ensures.width; pad = ap f c.new-back.ensures.pad ∙ c.greatest-greatest.ensures } in (
      refl,
      refl,
      goes_same f k.least p w forth.new.self.course fore forth.ensures.course F,
      goes_same f k.greatest q w back_first.new.self.course back back_first.ensures.course B,
      omega arith,
      omega (arith, forth.ensures.few, back_first.ensures.few),
      omega (arith, forth.ensures.picks, back_first.ensures.picks, first_picks f k.least p w fore F, first_picks f k.greatest q w back B),
      stands_first k f s forth.new.self.course fore forth.new.table forth.new.self.slot forth.ensures.course forth.ensures.slot forth.ensures.ring,
      stands_first (dual k) f s back_first.new.self.course back back_first.new.table back_first.new.self.slot back_first.ensures.course back_first.ensures.slot back_first.ensures.ring,
      λ fores backs P Q. ([], record { just = λ r. (λ i. absurd i, λ h. absurd (omega (arith, h.0))); order = tt }, refl, refl),
    )

pub loop-y-preserved : goal.loop-y-preserved
loop-y-preserved g c =
    let k = g.H.Cell.Kind.lattice in
    let f = g.H.Cell.Kind.means in
    let s = g.H.Holder.sheet c.args.h.now in
    let p = c.args.fore in
    let q = c.args.back in
    let w = c.args.size.width in
    let y = c.loop-y.y in
    let fore = c.loop-y.fore.course in
    let back = c.loop-y.back.course in
    let forth = c.next_row-picks in
    let behind = c.next_row-picks-in-loop-y in
    let t = forth.new.table in
    let r = behind.new.table in
    let I = c.loop-y.invariant in
    let F = goes_same f k.least p w forth.new.self.course fore forth.ensures.course I.2 in
    let B = goes_same f k.greatest q w behind.new.self.course back behind.ensures.course I.3 in
    let fores = c.row.result.now in
    let backs = c.row-in-loop-y.result.now in
    let room : p.rows * length (lengths_of p) * (w + 30) ≤ length t = omega (arith, c.requires.fore, I.0, c.first_lines-picks.auto.table, forth.auto.table) in
    let room' : q.rows * length (lengths_of q) * (w + 30) ≤ length r = omega (arith, c.requires.back, I.1, c.first_lines-picks-2.auto.table, behind.auto.table) in
    let wide : length fores ≡ w = row_long f k.least p w forth.new.self F t fores room c.row.ensures in
    let a : ℕ = forth.new.self.slot * length (lengths_of fore.plan) * (fore.width + 30) in
    let b : ℕ = behind.new.self.slot * length (lengths_of back.plan) * (back.width + 30) in
    let at_a = ap (λ (x : Course g.row.H-Cell.Denot). forth.new.self.slot * length (lengths_of x.plan) * (x.width + 30)) forth.ensures.course in
    let at_b = ap (λ (x : Course g.row.H-Cell.Denot). behind.new.self.slot * length (lengths_of x.plan) * (x.width + 30)) behind.ensures.course in
    let shown_fore = forth.ensures.row s (λ x j h. refl) I.7 in
    let shown_back = behind.ensures.row s (λ x j h. refl) I.8 in
    let ew : w ≡ s.width = c.requires.size.1.1.0 in
    let below : y < s.height = omega (arith, c.requires.size.1.1.1) in
    let more = times_more y (y + 1) (line_picks w (lengths_of p) + w * (length (chords_of p) - 1)) refl in
    let more' = times_more y (y + 1) (line_picks w (lengths_of q) + w * (length (chords_of q) - 1)) refl in
    let L = c.list_row-hits.ensures.hits in
    let R : RowHits k f y fores backs w L.0 = subst (λ (n : ℕ). RowHits k f y fores backs n L.0) wide L.1 in (
      forth.auto.table ∙ I.0,
      behind.auto.table ∙ I.1,
      F,
      B,
      omega (arith, c.list_row-hits.ensures.few, wide, c.requires.size.0, I.4),
      omega (arith, forth.ensures.few, behind.ensures.few, I.5, times_more y (y + 1) (2 * (64418 + 2048 * 495)) refl),
      omega (arith, forth.ensures.picks ∙ row_picks f k.least p w fore I.2, behind.ensures.picks ∙ row_picks f k.greatest q w back I.3, I.6, more, more'),
      stands_next k f s forth.new.self.course fore t forth.new.self.slot y forth.ensures.course shown_fore.1,
      stands_next (dual k) f s behind.new.self.course back r behind.new.self.slot y behind.ensures.course shown_back.1,
      λ ps qs P Q.
          let H = I.9 ps qs P Q in (
            H.0 ++ L.0,
            hits_more k f ps qs (shown f s) y w fores backs H.0 L.0
                (row_says k f s p q ps qs P Q c.requires.whole t r fores backs a b w y ew below
                (λ x h. row_cell f k.least p w forth.new.self F t fores room c.row.ensures k.least k.greatest x h ∙ ap (λ (n : ℕ). entry k f t (n + x)) at_a)
                (λ x h. row_cell f k.greatest q w behind.new.self B r backs room' c.row-in-loop-y.ensures k.greatest k.least x h ∙ ap (λ (n : ℕ). entry (dual k) f r (n + x)) at_b)
                (laid_gathered f k.least p w fore I.2 k s t a y shown_fore.0) (laid_gathered f k.greatest q w back I.3 (dual k) s r b y shown_back.0))
                (λ x h. let i = has_inside f s c.requires.whole x y h.on in omega (arith, i.0, ew)) H.1 R,
            L.2 ∙ ap (λ (n : ℕ). n + length L.0) H.2 ∙ sym (length-append H.0 L.0),
            L.3 ∙ ap₂ (λ (n : ℕ) (l : List Place). note n L.0 l) H.2 H.3 ∙ sym (note_more H.0 L.0 c.args.places.now),
          ),
    )

pub returns-clause-hits : goal.returns-clause-hits
returns-clause-hits g c = λ fores backs P Q.
    let f = g.H.Cell.Kind.means in
    let s = g.H.Holder.sheet c.args.h.now in
    let I = c.loop-y.invariant.9 fores backs P Q in (
      I.0,
      hits_all g.H.Cell.Kind.lattice fores backs (shown f s) c.loop-y.y I.0
          (λ p h. let i = has_inside f s c.requires.whole p.x p.y h.on in omega (arith, i.1, c.requires.size.1.1.1)) I.1,
      I.2,
      I.3 ∙ note_listed I.0 c.args.places.now,
    )

pub returns-clause-picks : goal.returns-clause-picks
returns-clause-picks g c =
    let p = c.args.fore in
    let q = c.args.back in
    let w = c.args.size.width in
    let h = c.args.size.height in
    let y : c.loop-y.y ≡ h = omega (arith, c.loop-y.auto.y-end) in
    let line = line_picks w (lengths_of p) in
    let line' = line_picks w (lengths_of q) in
    let row = w * (length (chords_of p) - 1) in
    let row' = w * (length (chords_of q) - 1) in
    c.loop-y.invariant.6
    ∙ ap (λ (n : ℕ). (p.rows - 1) * line + n * (line + row) + ((q.rows - 1) * line' + n * (line' + row'))) y
    ∙ ap₂ (λ (a b : ℕ). a + b) (rows_picks h p.rows line row (omega (arith, p.sound.origin))) (rows_picks h q.rows line' row' (omega (arith, q.sound.origin)))
