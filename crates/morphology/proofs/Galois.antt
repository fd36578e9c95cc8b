-- Two maps of an order, where the one lies under exactly when the other lies over: what follows from that alone.
use Rattle.std.proofs.Common.{◌≡◌, ap, subst}

pub record Galois (S : Type 0) : Type 1 where
  pub le : S → S → Type 0
  pub same : (f : S) → le f f
  pub trans : (f g h : S) → le f g → le g h → le f h
  pub anti : (f g : S) → le f g → le g f → f ≡ g
  pub lo : S → S
  pub hi : S → S
  pub to_lo : (f g : S) → le (hi f) g → le f (lo g)
  pub to_hi : (f g : S) → le f (lo g) → le (hi f) g

-- the order read from above: what is proved of lo and of opening holds of hi and of closing
abbrev pub flip : {S : Type 0} → Galois S → Galois S
flip G = record {
  le = λ f g. G.le g f;
  same = G.same;
  trans = λ f g h p q. G.trans h g f q p;
  anti = λ f g p q. G.anti f g q p;
  lo = G.hi;
  hi = G.lo;
  to_lo = λ f g. G.to_hi g f;
  to_hi = λ f g. G.to_lo g f;
}

abbrev pub opening : {S : Type 0} → Galois S → S → S
opening G f = G.hi (G.lo f)

abbrev pub closing : {S : Type 0} → Galois S → S → S
closing G f = G.lo (G.hi f)

module _ {S : Type 0} (G : Galois S) where
  pub opening_under : (f : S) → G.le (opening G f) f
  opening_under f = G.to_hi (G.lo f) f (G.same (G.lo f))

  pub lo_le : (f g : S) → G.le f g → G.le (G.lo f) (G.lo g)
  lo_le f g p = G.to_lo (G.lo f) g (G.trans (opening G f) f g (opening_under f) p)

module _ {S : Type 0} (G : Galois S) where
  opening_le : (f g : S) → G.le f g → G.le (opening G f) (opening G g)
  opening_le f g p = lo_le (flip G) (G.lo g) (G.lo f) (lo_le G f g p)

  pub opening_twice : (f : S) → opening G (opening G f) ≡ opening G f
  opening_twice f = ap G.hi (G.anti _ _ (lo_le G _ f (opening_under G f)) (opening_under (flip G) (G.lo f)))

  -- a lower bound m of f and g, the greatest, and one n of lo f and lo g, the greatest: lo takes the one to the other
  pub lo_meet : (f g m n : S) → G.le m f → G.le m g → ((h : S) → G.le h f → G.le h g → G.le h m) →
      G.le n (G.lo f) → G.le n (G.lo g) → ((h : S) → G.le h (G.lo f) → G.le h (G.lo g) → G.le h n) → G.lo m ≡ n
  lo_meet f g m n mf mg m-greatest nf ng n-greatest = G.anti (G.lo m) n
      (n-greatest (G.lo m) (lo_le G m f mf) (lo_le G m g mg))
      (G.to_lo n m (m-greatest (G.hi n) (G.to_hi n f nf) (G.to_hi n g ng)))

-- the lesser half by the closing, which is the opening of the flipped order, the greater by the opening
pub closing_opening : {S : Type 0} (G : Galois S) (f : S) → closing G (opening G (closing G (opening G f))) ≡ closing G (opening G f)
closing_opening G f = G.anti _ _
    (subst (G.le _) (opening_twice (flip G) (opening G f)) (opening_le (flip G) _ _ (opening_under G (closing G (opening G f)))))
    (opening_le (flip G) _ _ (subst (λ e. G.le e (opening G (closing G (opening G f)))) (opening_twice G f)
    (opening_le G _ _ (opening_under (flip G) (opening G f)))))
