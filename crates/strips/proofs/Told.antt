-- What is read is spelled so: the words of the job are those of the strip.
use Rattle.std.proofs.Common.{◌≡◌, ℕ, ◌*◌, inl, inr, List, [], ◌∷◌, ◌++◌, map, take, Option, Ok, Err, refl, sym, ap, subst, ◌∙◌}
use Rattle.std.specs.Prelude.{◌==◌}
use Rattle.std.proofs.lemmas.Bool.{eqb-true}
use Rattle.strips.specs.Items.{item_word}
use Rattle.strips.specs.Jobs.{Job, window_words, step_words, step_of, Sound, job_words}
use Rattle.strips.specs.Reading.{Left, from, ended, job_from}
use Rattle.strips.specs.declared.item.Item.TheVariants.{Head, Cells, End}
use Rattle.strips.specs.declared.parts.Shape.{Shape}
use Rattle.sheets.specs.declared.window.Rectangle.{Rectangle}
use Rattle.strips.specs.declared.fault.StripFault.TheVariants.{At}
use Rattle.strips.specs.declared.fault.Ground.TheVariants.{OutOfOrder}
use Rattle.strips.proofs.Items.{chosen}
use Rattle.strips.proofs.Passed.{made, passed}
use Rattle.strips.proofs.Taken.{AreWords, shape_takes, count_takes, raws_takes, window_takes, steps_take}

-- the strip ended there
ended_takes : (n i : ℕ) (ws : List ℕ) (m : Left) → ended n (from i ws) ≡ Ok m → (ws ≡ []) × (n ≡ 0)
ended_takes n i [] m e =
    elim (chosen (n == 0) (Ok (from i [])) (Err (At OutOfOrder i)) (Ok m) e) [
      | inl p ↦ (refl, eqb-true n 0 p.0)
      | inr p ↦ absurd (let q = p.1 in cc)
    ]
ended_takes n i (w ∷ ws) m e = absurd cc

-- a job, and the words and the bytes behind them that tell it
pub record TheJob (n : ℕ) (ws : List ℕ) (j : Job) : Type 0 where
  pub spelled : job_words j ≡ ws
  pub whole : n ≡ 0
  pub sound : Sound j

-- the words of the parts, behind each other
joined : (s : Shape) (c k : ℕ) (f : Option Rectangle) (ws ws1 ws2 ws3 ws4 ws5 : List ℕ)
    → ws ≡ item_word (Head (Ok s.kind) s.width s.height) ∷ ws1
    → ws1 ≡ item_word (Cells (s.width * s.height)) ∷ ws2
    → ws2 ≡ take c ws2 ++ ws3
    → ws3 ≡ window_words f ++ ws4
    → ws4 ≡ step_words (map step_of (take k ws4)) ++ item_word End ∷ ws5
    → ws5 ≡ []
    → job_words (made s c ws2 f k ws4) ≡ ws
unfolding job_words
joined s c k f ws ws1 ws2 ws3 ws4 ws5 h0 h1 h2 h3 h4 h5 =
    let ss = step_words (map step_of (take k ws4)) in
    let e4 : ss ++ item_word End ∷ [] ≡ ws4 = ap (λ (v : List ℕ). ss ++ item_word End ∷ v) (sym h5) ∙ sym h4 in
    let e3 : window_words f ++ (ss ++ item_word End ∷ []) ≡ ws3 = ap (λ (v : List ℕ). window_words f ++ v) e4 ∙ sym h3 in
    let e2 : take c ws2 ++ (window_words f ++ (ss ++ item_word End ∷ [])) ≡ ws2 = ap (λ (v : List ℕ). take c ws2 ++ v) e3 ∙ sym h2 in
    let e1 : item_word (Cells (s.width * s.height)) ∷ (take c ws2 ++ (window_words f ++ (ss ++ item_word End ∷ []))) ≡ ws1 = ap (λ (v : List ℕ). item_word (Cells (s.width * s.height)) ∷ v) e2 ∙ sym h1 in
    ap (λ (v : List ℕ). item_word (Head (Ok s.kind) s.width s.height) ∷ v) e1 ∙ sym h0

pub job_takes : (n : ℕ) (ws : List ℕ) (j : Job) → AreWords ws → job_from n ws ≡ Ok j → TheJob n ws j
job_takes n ws j fit e =
    let P = passed n ws j e in
    let the-head = shape_takes ws P.s.0 P.s.1 P.shape in
    let the-count = count_takes (P.s.0.width * P.s.0.height) P.s.1.place P.s.1.words P.c.0 P.c.1 P.count in
    let fit1 : AreWords P.s.1.words = (subst AreWords the-head.front fit).1 in
    let fit2 : AreWords P.c.1.words = (subst AreWords the-count.front fit1).1 in
    let the-raws = raws_takes P.s.0.kind P.c.0 P.c.1.place P.c.1.words P.r fit2 P.raws in
    let the-window = window_takes P.r.place P.r.words P.f.0 P.f.1 P.window in
    let the-steps = steps_take P.f.1.place P.f.1.words P.k.0 P.k.1 P.steps in
    let the-end = ended_takes n P.k.1.place P.k.1.words P.x P.end in
    subst (TheJob n ws) P.job
    (record {
      spelled = joined P.s.0 P.c.0 P.k.0 P.f.0 ws P.s.1.words P.c.1.words P.r.words P.f.1.words P.k.1.words the-head.front the-count.front the-raws.front the-window.front the-steps.front the-end.0;
      whole = the-end.1;
      sound = record {
        head = the-head.fits;
        count = the-raws.count ∙ sym the-count.count;
        raws = the-raws.raws;
        window = the-window.fits;
        steps = the-steps.fits;
      };
    })
