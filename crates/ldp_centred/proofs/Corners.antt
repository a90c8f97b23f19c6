-- The slopes of each operation's result go with those of its operands, place by place.
use Rattle.std.proofs.Common.{◌≡◌, ℤ, pos, neg_ℤ, ◌+ℤ◌, ◌-ℤ◌, ◌*ℤ◌, ◌≤ℤ◌, ◌<ℤ◌, List, [], ◌∷◌, Option}
use Rattle.std.proofs.Common.{Some, option_map, subst, sym, arith}
use Rattle.std.specs.Prelude.{option_and_then}
use Rattle.std.specs.Int.Signed.{≤ℤ_refl}
use Rattle.std.proofs.Math.IntN.{*ℤ_comm}
use Rattle.std.proofs.lemmas.Int.{ints}
use Rattle.ldp_num.specs.Number.{one}
use Rattle.ldp_num.specs.Plain.{plain_add, plain_sub}
use Rattle.ldp_num.specs.Ranges.{pair_add, pair_sub, pair_mul, pair_div}
use Rattle.ldp_num.specs.Slopes.{out, outward, of_each, of_places, slope_mul, slope_div}
use Rattle.ldp_num.proofs.Ring.{times_sum, times_negated, times_up}
use Rattle.ldp_range.specs.Range.{LiesIn}
use Rattle.ldp_range.proofs.Inclusion.{numbers-lie-in}
use Rattle.ldp_centred.proofs.Parts.{number-is}
use Rattle.ldp_centred.proofs.Centring.{then-some}
use Rattle.ldp_centred.proofs.Rounded.{map-some, both-some, ends-some, out-some, product-floor}
use Rattle.ldp_centred.proofs.Rounded.{quotient-is}
use Rattle.ldp_centred.proofs.Points.{Corner, Cornered}

-- what each place of a list gives, all places give
pub cornered-two : (n a b : ℤ) (f : ℤ × ℤ → ℤ × ℤ → Option (ℤ × ℤ))
    → ((x y s : ℤ × ℤ) → f x y ≡ Some s → Corner n a b s x y)
    → (xs ys ss : List (ℤ × ℤ)) → of_places f xs ys ≡ Some ss → Cornered n a b ss xs ys
cornered-two n a b f each [] [] [] e = tt
cornered-two n a b f each [] [] (s ∷ ss) e = cc
cornered-two n a b f each [] (y ∷ ys) ss e = cc
cornered-two n a b f each (x ∷ xs) [] ss e = cc
cornered-two n a b f each (x ∷ xs) (y ∷ ys) ss e =
    let t = then-some (λ r. option_map (λ rs. r ∷ rs) (of_places f xs ys)) (f x y) ss e in
    let u = map-some (λ rs. t.0 ∷ rs) (of_places f xs ys) ss t.1.1 in
    subst (λ (zs : List (ℤ × ℤ)). Cornered n a b zs (x ∷ xs) (y ∷ ys)) u.1.1
    (each x y t.0 t.1.0, cornered-two n a b f each xs ys u.0 u.1.0)

-- the same of one operand, which is taken twice
pub cornered-one : (n a : ℤ) (f : ℤ × ℤ → Option (ℤ × ℤ))
    → ((x s : ℤ × ℤ) → f x ≡ Some s → Corner n a (pos 0) s x x)
    → (xs ss : List (ℤ × ℤ)) → of_each f xs ≡ Some ss → Cornered n a (pos 0) ss xs xs
cornered-one n a f each [] [] e = tt
cornered-one n a f each [] (s ∷ ss) e = cc
cornered-one n a f each (x ∷ xs) ss e =
    let t = then-some (λ r. option_map (λ rs. r ∷ rs) (of_each f xs)) (f x) ss e in
    let u = map-some (λ rs. t.0 ∷ rs) (of_each f xs) ss t.1.1 in
    subst (λ (zs : List (ℤ × ℤ)). Cornered n a (pos 0) zs (x ∷ xs) (x ∷ xs)) u.1.1
    (each x t.0 t.1.0, cornered-one n a f each xs u.0 u.1.0)

pub add-corner : (x y s : ℤ × ℤ) → pair_add x y ≡ Some s → Corner (pos 1) (pos 1) (pos 1) s x y
add-corner x y s e =
    let h = ends-some (plain_add x.0 y.0) (plain_add x.1 y.1) s e in
    let low = number-is (x.0 +ℤ y.0) s.0 h.low in
    let high = number-is (x.1 +ℤ y.1) s.1 h.high in
    record {
      low = λ p q m n. omega (arith, ints, low, m.low, n.low);
      high = λ p q m n. omega (arith, ints, high, m.high, n.high);
    }

pub sub-corner : (x y s : ℤ × ℤ) → pair_sub x y ≡ Some s
    → Corner (pos 1) (pos 1) (neg_ℤ (pos 1)) s x y
sub-corner x y s e =
    let h = ends-some (plain_sub x.0 y.1) (plain_sub x.1 y.0) s e in
    let low = number-is (x.0 -ℤ y.1) s.0 h.low in
    let high = number-is (x.1 -ℤ y.0) s.1 h.high in
    record {
      low = λ p q m n. omega (arith, ints, low, m.low, n.high);
      high = λ p q m n. omega (arith, ints, high, m.high, n.low);
    }

-- a pair s holds z, in units of units
pub record Holds (n : ℤ) (s : ℤ × ℤ) (z : ℤ) : Type 0 where
  pub low : (n *ℤ s.0) ≤ℤ z
  pub high : z ≤ℤ (n *ℤ s.1)

-- a product of ranges, one unit further, holds the whole product of two numbers in them
pub product-held : (r t s : ℤ × ℤ) (v q : ℤ) → LiesIn v r → LiesIn q t
    → outward (pair_mul r t) ≡ Some s → Holds (pos one) s (v *ℤ q)
product-held r t s v q m n e =
    let o = then-some out (pair_mul r t) s e in
    let reached = numbers-lie-in.mul v q r t o.0 m n o.1.0 in
    let floor = product-floor v q reached.value reached.is in
    let within = reached.related in
    let by = out-some o.0 s o.1.1 in
    record {
      low = omega (arith, ints, floor.low, within.low, by.low);
      high = omega (arith, ints, floor.high, within.high, by.high);
    }

pub mul-corner : (r : ℤ × ℤ) (c v : ℤ) → LiesIn v r
    → (x y s : ℤ × ℤ) → slope_mul r c x y ≡ Some s → Corner (pos one) c v s x y
mul-corner r c v m x y s e =
    let t = both-some pair_add (outward (pair_mul r y)) (outward (pair_mul (c, c) x)) s e in
    let h = ends-some (plain_add t.first.0 t.second.0) (plain_add t.first.1 t.second.1) s t.is in
    let low = number-is (t.first.0 +ℤ t.second.0) s.0 h.low in
    let high = number-is (t.first.1 +ℤ t.second.1) s.1 h.high in
    let own : LiesIn c (c, c) = record { low = ≤ℤ_refl c; high = ≤ℤ_refl c } in
    record {
      low = λ p q a b. let first = product-held r y t.first v q m b t.first_is in
          let second = product-held (c, c) x t.second c p own a t.second_is in
          omega (arith, ints, low, first.low, second.low);
      high = λ p q a b. let first = product-held r y t.first v q m b t.first_is in
          let second = product-held (c, c) x t.second c p own a t.second_is in
          omega (arith, ints, high, first.high, second.high);
    }

nothing : (q : ℤ) → pos 0 *ℤ q ≡ pos 0
nothing q = omega (arith, ints)

pub sq-corner : (sum : ℤ × ℤ) (a : ℤ) → LiesIn a sum
    → (x s : ℤ × ℤ) → outward (pair_mul sum x) ≡ Some s → Corner (pos one) a (pos 0) s x x
sq-corner sum a m x s e = record {
  low = λ p q i j. let held = product-held sum x s a p m i e in
      omega (arith, ints, held.low, nothing q);
  high = λ p q i j. let held = product-held sum x s a p m i e in
      omega (arith, ints, held.high, nothing q);
}

-- a quotient of ranges, one unit further, by a number in the divisor
record Divided (d r s : ℤ × ℤ) (w z : ℤ) : Type 0 where
  low : (w *ℤ s.0) ≤ℤ (pos one *ℤ z)
  high : (pos one *ℤ z) ≤ℤ (w *ℤ s.1)

quotient-low : (w c l z : ℤ) → pos 1 ≤ℤ w → l ≤ℤ c → (w *ℤ c) ≤ℤ z → (w *ℤ l) ≤ℤ z
quotient-low w c l z n m h =
    let up = times_up l c w m (omega (arith, ints)) in
    omega (arith, ints, *ℤ_comm w c, *ℤ_comm w l)

quotient-high : (w c h z : ℤ) → pos 1 ≤ℤ w → c ≤ℤ h → z <ℤ ((w *ℤ c) +ℤ w)
    → z ≤ℤ (w *ℤ (h +ℤ pos 1))
quotient-high w c h z n m k =
    let up = times_up c h w m (omega (arith, ints)) in
    omega (arith, ints, *ℤ_comm w c, *ℤ_comm w h, times_sum w h (pos 1), *ℤ_comm w (pos 1))

quotient-held : (d r s : ℤ × ℤ) (z w : ℤ) → LiesIn z d → LiesIn w r
    → outward (pair_div d r) ≡ Some s → Divided d r s w z
quotient-held d r s z w m n e =
    let o = then-some out (pair_div d r) s e in
    let reached = numbers-lie-in.div z w d r o.0 m n o.1.0 in
    let is = quotient-is z w reached.value reached.is in
    let within = reached.related in
    let by = out-some o.0 s o.1.1 in
    record {
      low = subst (λ (l : ℤ). (w *ℤ l) ≤ℤ (pos one *ℤ z)) (sym by.low)
          (quotient-low w reached.value o.0.0 (pos one *ℤ z) is.above within.low is.low);
      high = subst (λ (h : ℤ). (pos one *ℤ z) ≤ℤ (w *ℤ h)) (sym by.high)
          (quotient-high w reached.value o.0.1 (pos one *ℤ z) is.above within.high is.high);
    }

-- how the dividend of a slope of a quotient lies about S * p - k * q
record Dividend (d : ℤ × ℤ) (z : ℤ) : Type 0 where
  low : (pos one *ℤ d.0) ≤ℤ z
  high : z ≤ℤ (pos one *ℤ d.1)
  ordered : d.0 ≤ℤ d.1

dividend-held : (near x y m d : ℤ × ℤ) (k p q : ℤ) → LiesIn k near → LiesIn p x → LiesIn q y
    → outward (pair_mul near y) ≡ Some m → pair_sub x m ≡ Some d
    → Dividend d ((pos one *ℤ p) +ℤ (neg_ℤ k *ℤ q))
dividend-held near x y m d k p q a b c e f =
    let held = product-held near y m k q a c e in
    let h = ends-some (plain_sub x.0 m.1) (plain_sub x.1 m.0) d f in
    let low = number-is (x.0 -ℤ m.1) d.0 h.low in
    let high = number-is (x.1 -ℤ m.0) d.1 h.high in
    let turned = times_negated q k in
    let first = *ℤ_comm (neg_ℤ k) q in
    let second = *ℤ_comm k q in
    record {
      low = omega (arith, ints, held.high, low, b.low, turned, first, second);
      high = omega (arith, ints, held.low, high, b.high, turned, first, second);
      ordered = omega (arith, ints, held.low, held.high, low, high, b.low, b.high);
    }

pub div-corner : (r near : ℤ × ℤ) (w k : ℤ) → LiesIn w r → LiesIn k near
    → (x y s : ℤ × ℤ) → slope_div r near x y ≡ Some s → Corner w (pos one) (neg_ℤ k) s x y
div-corner r near w k n m x y s e =
    let inner = option_and_then (pair_sub x) (outward (pair_mul near y)) in
    let o = then-some out (option_and_then (λ d. pair_div d r) inner) s e in
    let t = then-some (λ d. pair_div d r) inner o.0 o.1.0 in
    let u = then-some (pair_sub x) (outward (pair_mul near y)) t.0 t.1.0 in
    let whole : outward (pair_div t.0 r) ≡ Some s =
    subst (λ (g : Option (ℤ × ℤ)). outward g ≡ Some s) (sym t.1.1) o.1.1 in
    record {
      low = λ p q a b. let d = dividend-held near x y u.0 t.0 k p q m a b u.1.0 u.1.1 in
          let first : LiesIn t.0.0 t.0 = record { low = ≤ℤ_refl t.0.0; high = d.ordered } in
          let held = quotient-held t.0 r s t.0.0 w first n whole in
          omega (arith, ints, held.low, d.low);
      high = λ p q a b. let d = dividend-held near x y u.0 t.0 k p q m a b u.1.0 u.1.1 in
          let last : LiesIn t.0.1 t.0 = record { low = d.ordered; high = ≤ℤ_refl t.0.1 } in
          let held = quotient-held t.0 r s t.0.1 w last n whole in
          omega (arith, ints, held.high, d.high);
    }

pub sqrt-corner : (sum : ℤ × ℤ) (n : ℤ) → LiesIn n sum
    → (x s : ℤ × ℤ) → outward (pair_div x sum) ≡ Some s → Corner n (pos one) (pos 0) s x x
sqrt-corner sum n m x s e = record {
  low = λ p q i j. let held = quotient-held x sum s p n i m e in
      omega (arith, ints, held.low, nothing q);
  high = λ p q i j. let held = quotient-held x sum s p n i m e in
      omega (arith, ints, held.high, nothing q);
}
