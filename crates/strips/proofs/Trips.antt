-- The reader and the layout are each other's inverse.
use Rattle.std.proofs.Common.{◌≡◌, ℕ, ◌*◌, ◌%◌, ◌≤◌, Bool, cond, ltb, inl, inr, List, length, Result, Ok, Err, sym, ap, subst, ◌∙◌, arith}
use Rattle.std.specs.Prelude.{IfOk}
use Rattle.std.specs.List.{flat_map}
use Rattle.std.proofs.lemmas.Bool.{le-ltb, ltb-false}
use Rattle.strips.specs.Words.{word_bytes, words, over}
use Rattle.strips.specs.Jobs.{Job, job_words, layout}
use Rattle.strips.specs.Reading.{job_from, reading}
use Rattle.strips.specs.Views.{job_of, Reads}
use Rattle.strips.specs.Laws.{Told, OneJob}
use Rattle.strips.specs.declared.fault.StripFault.{StripFault}
use Rattle.strips.specs.declared.fault.StripFault.TheVariants.{TooLong}
use Rattle.strips.specs.declared.job.JobStrip.{JobStrip}
use Rattle.strips.proofs.Items.{chosen}
use Rattle.strips.proofs.Shapes.{ok_is}
use Rattle.strips.proofs.Spelled.{AreBytes, words_fit, bytes_again, words_again, length_spelled}
use Rattle.strips.proofs.Told.{job_takes}
use Rattle.strips.proofs.Again.{job_again}

-- the bytes of an accepted strip are those of the job's strip
pub told : (bs : List ℕ) (j : Job) → AreBytes bs → length bs ≤ 65536 → job_from (over bs) (words bs) ≡ Ok j → Told bs j
told bs j h short e =
    let t = job_takes (over bs) (words bs) j (words_fit bs h) e in
    let spelled : layout j ≡ bs = ap (λ (ws : List ℕ). flat_map word_bytes ws) t.spelled ∙ bytes_again bs h t.whole in
    record {
      proper = record {
        sound = t.sound;
        short = subst (λ (v : List ℕ). length v ≤ 65536) (sym spelled) short;
      };
      spelled = spelled;
    }

-- a strip that is not too long is read by its words
pub short_reading : (bs ws : List ℕ) (n : ℕ) → length bs ≤ 65536 → n ≡ over bs → ws ≡ words bs → job_from n ws ≡ reading bs
unfolding reading
short_reading bs ws n short left whole =
    ap (λ (k : ℕ). job_from k ws) left
    ∙ ap (job_from (over bs)) whole
    ∙ sym (ap (λ (b : Bool). cond b (Err TooLong) (job_from (over bs) (words bs))) (le-ltb 65536 (length bs) short))

-- the strip of a job is read as that job
pub retold : (bs : List ℕ) (j : Job) → Told bs j → reading bs ≡ Ok j
retold bs j t =
    let p = t.proper in
    let ws : words bs ≡ job_words j = ap words (sym t.spelled) ∙ words_again (job_words j) in
    let len : length bs ≡ 4 * length (job_words j) = ap (λ (v : List ℕ). length v) (sym t.spelled) ∙ length_spelled (job_words j) in
    let whole : length bs % 4 ≡ 0 = omega arith in
    let short : length bs ≤ 65536 = subst (λ (v : List ℕ). length v ≤ 65536) t.spelled p.short in
    sym (short_reading bs (job_words j) 0 short (sym whole) (sym ws)) ∙ job_again j p.sound

-- a strip that is read is short enough, and its words are read
read_words : (bs : List ℕ) (j : Job) → reading bs ≡ Ok j → (length bs ≤ 65536) × (job_from (over bs) (words bs) ≡ Ok j)
unfolding reading
read_words bs j e =
    elim (chosen (ltb 65536 (length bs)) (Err TooLong) (job_from (over bs) (words bs)) (Ok j) e) [
      | inl p ↦ absurd (let q = p.1 in cc)
      | inr p ↦ (ltb-false 65536 (length bs) p.0, p.1)
    ]

pub found : (bs : List ℕ) (r : Result JobStrip StripFault) → AreBytes bs → Reads (reading bs) r → IfOk r (λ s. Told bs (job_of s))
found bs (Ok s) h e = let w = read_words bs (job_of s) e in told bs (job_of s) h w.0 w.1
found bs (Err f) h e = tt

pub one_job : OneJob
one_job bs j k t u = ok_is j k (sym (retold bs j t) ∙ retold bs k u)
