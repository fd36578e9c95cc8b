-- A line is blank where each of its characters is, and is not where one is none.
use Rattle.std.proofs.Common.{◌≡◌, ◌≢◌, ℕ, zero, suc, ◌<◌, Bool, true, false, List, [], ◌∷◌, length, refl, tests, arith}
use Rattle.std.specs.List.{AllWithin, HoldsAt}
use Rattle.std.specs.Prelude.{MatchBool}
use Rattle.drawings.specs.Signs.{blank}

blank_yes : (bs : List ℕ) → AllWithin (λ b. b ≡ 32) bs 0 (length bs) → true ≡ blank bs
blank_yes [] all = refl
blank_yes (b ∷ bs) all =
    let first : b ≡ 32 = all 0 0 (omega arith) (omega arith) in
    let rest : true ≡ blank bs = blank_yes bs (λ k d low short. all (suc k) d (omega arith) (omega (arith, short))) in
    rw first rest

blank_no : (bs : List ℕ) (k : ℕ) → k < length bs → HoldsAt (λ b. b ≢ 32) bs k → false ≡ blank bs
blank_no [] k short other = elim short [ ]
blank_no (b ∷ bs) zero short other = grind (arith, tests, other 0)
blank_no (b ∷ bs) (suc k) short other =
    let rest : false ≡ blank bs = blank_no bs k (omega (arith, short)) other in
    grind (arith, tests, rest)

pub blank_by : (r : Bool) (bs : List ℕ)
    → MatchBool r (AllWithin (λ b. b ≡ 32) bs 0 (length bs)) ((k : ℕ) × (k < length bs) × HoldsAt (λ b. b ≢ 32) bs k)
    → r ≡ blank bs
blank_by true bs all = blank_yes bs all
blank_by false bs some = blank_no bs some.0 some.1 some.2
