-- A listed number is written behind the others.
use Rattle.std.proofs.Common.{◌≡◌, ℕ, ◌+◌, ◌<◌, Bool, cond, List, [], ◌∷◌, ◌++◌, length, take, sym, refl, ap, ◌∙◌, subst, ap₂, arith, length-set}
use Rattle.std.specs.List.{AllByRecursion}
use Rattle.std.proofs.lemmas.List.{append-nil, take_more_set}
use Rattle.masks.specs.Lengths.{rising}
use Rattle.masks.proofs.Halving.{rising_none, rising_more, rising_short, listed_after}
use Rattle.masks.proofs.lengths.rising.Goals as goal
use Rattle.masks.proofs.lengths.rising.Goals.{then-is_listed, else-is_listed}

pub loop-i-init : goal.loop-i-init
loop-i-init c = (refl, omega arith, sym (rising_none c.args.ticks.now))

pub loop-i-preserved : goal.loop-i-preserved
loop-i-preserved c =
    let s = c.args.ticks.now in
    let i = c.loop-i.i in
    let n = c.loop-i.count in
    let list = c.loop-i.list in
    elim c.if-is_listed.branch [
      | then-is_listed w ↦
          let room : n < length list = omega (arith, c.loop-i.invariant.0, c.loop-i.invariant.1) in (
            ap length w.list-is ∙ (simp length-set c.loop-i.invariant.0),
            omega (arith, w.count-is, c.loop-i.invariant.1),
            ap₂ take w.count-is w.list-is
                ∙ take_more_set list n (i + 1) room
                ∙ ap (λ (l : List ℕ). l ++ (i + 1) ∷ []) c.loop-i.invariant.2
                ∙ sym (rising_more s i ∙ ap (λ (b : Bool). rising s i ++ cond b ((i + 1) ∷ []) []) (sym (listed_after s i c.loop-i-test.true) ∙ w.if-is_listed.true)),
          )
      | else-is_listed w ↦ (
        ap length w.list-is ∙ c.loop-i.invariant.0,
        omega (arith, w.count-is, c.loop-i.invariant.1),
        ap₂ take w.count-is w.list-is
            ∙ c.loop-i.invariant.2
            ∙ sym (rising_more s i ∙ ap (λ (b : Bool). rising s i ++ cond b ((i + 1) ∷ []) []) (sym (listed_after s i c.loop-i-test.true) ∙ w.if-is_listed.false) ∙ append-nil (rising s i)),
      )
    ]

-- after 31 numbers the list has all that are listed
all : (s : List Bool) (list : List ℕ) (count i : ℕ) → i ≡ 31 → take count list ≡ rising s i → take count list ≡ rising s 31
all s list count i e h = subst (λ (n : ℕ). take count list ≡ rising s n) e h

pub invariant_of-result : goal.invariant_of-result
invariant_of-result c =
    let s = c.args.ticks.now in
    record {
      few = omega (arith, c.loop-i.invariant.1);
      short = subst (AllByRecursion (λ a. a < 32)) (sym (all s c.loop-i.list c.loop-i.count c.loop-i.i (omega arith) c.loop-i.invariant.2)) (rising_short s 31);
    }

pub returns : goal.returns
returns c = all c.args.ticks.now c.loop-i.list c.loop-i.count c.loop-i.i (omega arith) c.loop-i.invariant.2
