-- Each operation at numbers in ranges lies in the range of the operation.
use Rattle.std.proofs.Common.{◌≡◌, ℕ, zero, suc, ◌*◌, ◌<◌, ◌≤◌, true, false, [], ◌∷◌, Some}
use Rattle.std.proofs.Common.{option_map, ℤ, pos, negsuc, ◌+ℤ◌, ◌-ℤ◌, ◌≤ℤ◌, ◌<ℤ◌, ◌⊎◌, inl, inr}
use Rattle.std.proofs.Common.{refl, arith}
use Rattle.std.specs.Prelude.{int_le}
use Rattle.std.specs.Int.Signed.{≤ℤ_refl}
use Rattle.std.proofs.lemmas.Int.{ints, clamps, by_lt_z}
use Rattle.ldp_num.specs.Number.{IsNumber, number, one}
use Rattle.ldp_num.specs.Root.{root}
use Rattle.ldp_num.specs.Plain.{plain_add, plain_sub, plain_mul, plain_div, plain_sq, plain_sqrt}
use Rattle.ldp_num.specs.Plain.{plain_need}
use Rattle.ldp_num.specs.Ranges.{ends, hull_of, pair_add, pair_sub, pair_mul, pair_div, pair_sq}
use Rattle.ldp_num.specs.Ranges.{pair_sqrt, pair_need}
use Rattle.ldp_num.specs.Written.{number_ops, range_ops}
use Rattle.ldp_range.specs.Related.{Reaches, FollowsOne, FollowsTwo}
use Rattle.ldp_range.specs.Range.{LiesIn}
use Rattle.ldp_range.specs.Laws.{OperationsHold, Inclusion, StepInclusion}
use Rattle.ldp_range.proofs.Follows.{results_follow, values_follow}
use Rattle.ldp_range.proofs.Orders.{product, product-up, product-down, product-right-up}
use Rattle.ldp_range.proofs.Orders.{product-right-down, quotient, quotient-up, quotient-down}
use Rattle.ldp_range.proofs.Orders.{quotient-rise, root-le}

-- a number between two numbers is in their range
pub ends-hold : (a b z l h : ℤ) → a ≤ℤ z → z ≤ℤ b → ends (number a) (number b) ≡ Some (l, h)
    → Reaches LiesIn (number z) (l, h)
ends-hold a b z l h x y e = record {
  value = z;
  is = grind (arith, ints);
  related = record { low = grind (arith, ints); high = grind (arith, ints) };
}

-- what four corner results with a hull have in common
record Hulled (p q r s l h : ℤ) : Type 0 where
  low_number : IsNumber l
  high_number : IsNumber h
  first_low : l ≤ℤ p
  second_low : l ≤ℤ q
  third_low : l ≤ℤ r
  last_low : l ≤ℤ s
  first_high : p ≤ℤ h
  second_high : q ≤ℤ h
  third_high : r ≤ℤ h
  last_high : s ≤ℤ h

hulled : (p q r s l h : ℤ) → hull_of (number p ∷ number q ∷ number r ∷ number s ∷ []) ≡ Some (l, h)
    → Hulled p q r s l h
hulled p q r s l h e = record {
  low_number = record { low = grind (arith, ints, clamps); high = grind (arith, ints, clamps) };
  high_number = record { low = grind (arith, ints, clamps); high = grind (arith, ints, clamps) };
  first_low = grind (arith, ints, clamps);
  second_low = grind (arith, ints, clamps);
  third_low = grind (arith, ints, clamps);
  last_low = grind (arith, ints, clamps);
  first_high = grind (arith, ints, clamps);
  second_high = grind (arith, ints, clamps);
  third_high = grind (arith, ints, clamps);
  last_high = grind (arith, ints, clamps);
}

-- z is between x and y, whichever is greater
abbrev Between : ℤ → ℤ → ℤ → Type 0
Between z x y = ((x ≤ℤ z) × (z ≤ℤ y)) ⊎ ((y ≤ℤ z) × (z ≤ℤ x))

between-low : (z x y l : ℤ) → Between z x y → l ≤ℤ x → l ≤ℤ y → l ≤ℤ z
between-low z x y l (inl b) h k = omega (arith, ints)
between-low z x y l (inr b) h k = omega (arith, ints)

between-high : (z x y h : ℤ) → Between z x y → x ≤ℤ h → y ≤ℤ h → z ≤ℤ h
between-high z x y h (inl b) k l = omega (arith, ints)
between-high z x y h (inr b) k l = omega (arith, ints)

number-within : (l h z : ℤ) → IsNumber l → IsNumber h → l ≤ℤ z → z ≤ℤ h
    → Reaches LiesIn (number z) (l, h)
number-within l h z a b x y = record {
  value = z;
  is = grind (arith, ints);
  related = record { low = x; high = y };
}

hull-holds : (p q r s u v z l h : ℤ) → Between u p r → Between v q s → Between z u v
    → hull_of (number p ∷ number q ∷ number r ∷ number s ∷ []) ≡ Some (l, h)
    → Reaches LiesIn (number z) (l, h)
hull-holds p q r s u v z l h left right middle e =
    let held = hulled p q r s l h e in
    number-within l h z held.low_number held.high_number
    (between-low z u v l middle (between-low u p r l left held.first_low held.third_low)
    (between-low v q s l right held.second_low held.last_low))
    (between-high z u v h middle (between-high u p r h left held.first_high held.third_high)
    (between-high v q s h right held.second_high held.last_high))

product-between : (lo hi x k : ℤ) → lo ≤ℤ x → x ≤ℤ hi
    → Between (product x k) (product lo k) (product hi k)
product-between lo hi x k h l =
    by_lt_z k (pos 0)
    (λ n. let m : k ≤ℤ pos 0 =
    omega (arith, ints) in inr (product-down x hi k l m, product-down lo x k h m))
    (λ n. inl (product-up lo x k h n, product-up x hi k l n))

product-right-between : (x low high y : ℤ) → low ≤ℤ y → y ≤ℤ high
    → Between (product x y) (product x low) (product x high)
product-right-between x low high y h l =
    by_lt_z x (pos 0)
    (λ n. let m : x ≤ℤ pos 0 =
    omega (arith, ints) in inr
    (product-right-down x y high l m, product-right-down x low y h m))
    (λ n. inl (product-right-up x low y h n, product-right-up x y high l n))

quotient-between : (x : ℤ) (d e k : ℕ) → 0 < d → d ≤ k → k ≤ e
    → Between (quotient x k) (quotient x d) (quotient x e)
quotient-between x d e k a h l =
    let b : 0 < k = omega arith in
    by_lt_z x (pos 0)
    (λ n. let m : x ≤ℤ pos 0 =
    omega (arith, ints) in inl (quotient-rise x d k a h m, quotient-rise x k e b l m))
    (λ n. inr (quotient-down x k e b l n, quotient-down x d k a h n))

pub add-holds : FollowsTwo LiesIn plain_add pair_add
add-holds a c b d t x y e =
    ends-hold (b.0 +ℤ d.0) (b.1 +ℤ d.1) (a +ℤ c) t.0 t.1 (omega (arith, ints, x.low, y.low))
    (omega (arith, ints, x.high, y.high)) e

pub sub-holds : FollowsTwo LiesIn plain_sub pair_sub
sub-holds a c b d t x y e =
    ends-hold (b.0 -ℤ d.1) (b.1 -ℤ d.0) (a -ℤ c) t.0 t.1 (omega (arith, ints, x.low, y.high))
    (omega (arith, ints, x.high, y.low)) e

pub mul-holds : FollowsTwo LiesIn plain_mul pair_mul
mul-holds a c b d t x y e =
    hull-holds (product b.0 d.0) (product b.0 d.1) (product b.1 d.0) (product b.1 d.1)
    (product a d.0) (product a d.1) (product a c) t.0 t.1
    (product-between b.0 b.1 a d.0 x.low x.high) (product-between b.0 b.1 a d.1 x.low x.high)
    (product-right-between a d.0 d.1 c y.low y.high) e

quotient-holds : (a c lo hi low high l h : ℤ) → lo ≤ℤ a → a ≤ℤ hi → low ≤ℤ c → c ≤ℤ high
    → pair_div (lo, hi) (low, high) ≡ Some (l, h) → Reaches LiesIn (plain_div a c) (l, h)
quotient-holds a (pos (suc k)) lo hi (pos (suc d)) (pos (suc e)) l h w x y z eq =
    let less : suc d ≤ suc k = omega (arith, ints) in
    let more : suc k ≤ suc e = omega (arith, ints) in
    hull-holds (quotient lo (suc d)) (quotient lo (suc e)) (quotient hi (suc d))
    (quotient hi (suc e))
    (quotient a (suc d)) (quotient a (suc e)) (quotient a (suc k)) l h
    (inl (quotient-up lo a (suc d) (omega arith) w, quotient-up a hi (suc d) (omega arith) x))
    (inl (quotient-up lo a (suc e) (omega arith) w, quotient-up a hi (suc e) (omega arith) x))
    (quotient-between a (suc d) (suc e) (suc k) (omega arith) less more) eq
quotient-holds a c lo hi (pos zero) high l h w x y z eq = cc
quotient-holds a c lo hi (negsuc d) high l h w x y z eq = cc
quotient-holds a (pos zero) lo hi (pos (suc d)) high l h w x y z eq = absurd (omega (arith, ints))
quotient-holds a (negsuc k) lo hi (pos (suc d)) high l h w x y z eq = absurd (omega (arith, ints))
quotient-holds a (pos (suc k)) lo hi (pos (suc d)) (pos zero) l h w x y z eq =
    absurd (omega (arith, ints))
quotient-holds a (pos (suc k)) lo hi (pos (suc d)) (negsuc e) l h w x y z eq =
    absurd (omega (arith, ints))

pub div-holds : FollowsTwo LiesIn plain_div pair_div
div-holds a c b d t x y e = quotient-holds a c b.0 b.1 d.0 d.1 t.0 t.1 x.low x.high y.low y.high e

pub square-up : (x y : ℤ) → pos 0 ≤ℤ x → x ≤ℤ y → product x x ≤ℤ product y y
square-up x y h k =
    let left = product-up x y x k h in
    let right = product-right-up y x y k (omega (arith, ints)) in
    omega (arith, ints)

pub square-down : (x y : ℤ) → x ≤ℤ y → y ≤ℤ pos 0 → product y y ≤ℤ product x x
square-down x y k h =
    let left = product-down x y y k h in
    let right = product-right-down x x y k (omega (arith, ints)) in
    omega (arith, ints)

pub le-true : (x y : ℤ) → x ≤ℤ y → int_le x y ≡ true
le-true x y h = grind (arith, ints)

pub le-false : (x y : ℤ) → y <ℤ x → int_le x y ≡ false
le-false x y h = grind (arith, ints)

pub square-above : (x : ℤ) → pos 0 ≤ℤ product x x
square-above (pos n) = square-up (pos 0) (pos n) (≤ℤ_refl (pos 0)) (omega (arith, ints))
square-above (negsuc n) = square-down (negsuc n) (pos 0) (omega (arith, ints)) (≤ℤ_refl (pos 0))

square-below : (lo hi x : ℤ) → lo ≤ℤ x → x ≤ℤ hi
    → (product x x ≤ℤ product lo lo) ⊎ (product x x ≤ℤ product hi hi)
square-below lo hi x h k =
    by_lt_z x (pos 0)
    (λ n. inl (square-down lo x h (omega (arith, ints))))
    (λ n. inr (square-up x hi n k))

across-hold : (p s z l h : ℤ) → pos 0 ≤ℤ z → (z ≤ℤ p) ⊎ (z ≤ℤ s)
    → option_map {U = ℤ × ℤ} (λ r. (pos 0, r.1)) (hull_of (number p ∷ number s ∷ [])) ≡ Some (l, h)
    → Reaches LiesIn (number z) (l, h)
across-hold p s z l h a (inl b) e = record {
  value = z;
  is = grind (arith, ints, clamps);
  related = record { low = grind (arith, ints, clamps); high = grind (arith, ints, clamps) };
}
across-hold p s z l h a (inr b) e = record {
  value = z;
  is = grind (arith, ints, clamps);
  related = record { low = grind (arith, ints, clamps); high = grind (arith, ints, clamps) };
}

square-holds : (a lo hi l h : ℤ) → lo ≤ℤ a → a ≤ℤ hi → pair_sq (lo, hi) ≡ Some (l, h)
    → Reaches LiesIn (plain_sq a) (l, h)
square-holds a lo hi l h x y e =
    by_lt_z lo (pos 0)
    (λ n. by_lt_z (pos 0) hi
    (λ m. across-hold (product lo lo) (product hi hi) (product a a) l h (square-above a)
    (square-below lo hi a x y)
    (rw (le-false (pos 0) lo n, le-false hi (pos 0) m) at e))
    (λ m. ends-hold (product hi hi) (product lo lo) (product a a) l h (square-down a hi y m)
    (square-down lo a x (omega (arith, ints)))
    (rw (le-false (pos 0) lo n, le-true hi (pos 0) m) at e)))
    (λ n. ends-hold (product lo lo) (product hi hi) (product a a) l h (square-up lo a n x)
    (square-up a hi (omega (arith, ints)) y)
    (rw (le-true (pos 0) lo n) at e))

pub sq-holds : FollowsOne LiesIn plain_sq pair_sq
sq-holds a b t x e = square-holds a b.0 b.1 t.0 t.1 x.low x.high e

root-holds : (a lo hi l h : ℤ) → lo ≤ℤ a → a ≤ℤ hi → pair_sqrt (lo, hi) ≡ Some (l, h)
    → Reaches LiesIn (plain_sqrt a) (l, h)
root-holds (pos k) (pos m) (pos n) l h x y e =
    let low : m * one ≤ k * one = omega (arith, ints) in
    let high : k * one ≤ n * one = omega (arith, ints) in
    let left = root-le (m * one) (k * one) low in
    let right = root-le (k * one) (n * one) high in
    ends-hold (pos (root (m * one))) (pos (root (n * one))) (pos (root (k * one))) l h
    (omega (arith, ints)) (omega (arith, ints)) e
root-holds a (negsuc m) hi l h x y e = cc
root-holds (negsuc k) (pos m) hi l h x y e = absurd (omega (arith, ints))
root-holds (pos k) (pos m) (negsuc n) l h x y e = absurd (omega (arith, ints))

pub sqrt-holds : FollowsOne LiesIn plain_sqrt pair_sqrt
sqrt-holds a b t x e = root-holds a b.0 b.1 t.0 t.1 x.low x.high e

natural-holds : (a lo hi l h : ℤ) → lo ≤ℤ a → a ≤ℤ hi → pair_need (lo, hi) ≡ Some (l, h)
    → Reaches LiesIn (plain_need a) (l, h)
natural-holds (pos k) (pos m) (pos n) l h x y e = record {
  value = pos k;
  is = refl;
  related = record { low = grind (arith, ints); high = grind (arith, ints) };
}
natural-holds a (negsuc m) hi l h x y e = cc
natural-holds (negsuc k) (pos m) hi l h x y e = absurd (omega (arith, ints))
natural-holds (pos k) (pos m) (negsuc n) l h x y e = absurd (omega (arith, ints))

pub need-holds : FollowsOne LiesIn plain_need pair_need
need-holds a b t x e = natural-holds a b.0 b.1 t.0 t.1 x.low x.high e

-- each operation at numbers of ranges
pub numbers-lie-in : OperationsHold
numbers-lie-in = record {
  constant = λ v. record { low = ≤ℤ_refl v; high = ≤ℤ_refl v };
  add = add-holds;
  sub = sub-holds;
  mul = mul-holds;
  div = div-holds;
  sq = sq-holds;
  sqrt = sqrt-holds;
  need = need-holds;
}

pub inclusion : Inclusion
inclusion = values_follow LiesIn number_ops range_ops numbers-lie-in

pub step-inclusion : StepInclusion
step-inclusion = results_follow LiesIn number_ops range_ops numbers-lie-in
