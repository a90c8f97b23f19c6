-- The orders of sums, products, quotients and roots.
use Rattle.std.proofs.Common.{◌≡◌, ℕ, zero, suc, ◌*◌, ◌/◌, ◌<◌, ◌≤◌, ℤ, pos, negsuc, ◌*ℤ◌, ◌≤ℤ◌}
use Rattle.std.proofs.Common.{◌⊎◌, inl, inr, ap, lit<, arith}
use Rattle.std.proofs.Math.Nat.{mul-le-mul_left, div-mul-le_self, zero-div}
use Rattle.std.proofs.Math.IntN.{*ℤ_comm}
use Rattle.std.proofs.lemmas.Nat.{le-div}
use Rattle.std.proofs.lemmas.Bool.{cases_lt}
use Rattle.std.proofs.lemmas.Int.{ints}
use Rattle.std.specs.Int.Signed.{≤ℤ_refl, le_z_yes}
use Rattle.ldp_num.specs.Number.{one}
use Rattle.ldp_num.specs.Plain.{floor_div}
use Rattle.ldp_num.specs.Root.{root}
use Rattle.ldp_num.proofs.Roots.{is-root}
use Rattle.ldp_num.proofs.Ring.{times_up, times_down}

div-le-div : (a b d : ℕ) → 0 < d → a ≤ b → a / d ≤ b / d
div-le-div a b d h k =
    let below : a / d * d ≤ a = div-mul-le_self a d in
    le-div (a / d) b d h (omega arith)

pub floor-le : (x y : ℤ) (d : ℕ) → 0 < d → x ≤ℤ y → floor_div x d ≤ℤ floor_div y d
floor-le (pos a) (pos b) d h k = omega (arith, ints, div-le-div a b d h (omega (arith, ints)))
floor-le (pos a) (negsuc b) d h k = absurd (omega (arith, ints))
floor-le (negsuc a) (pos b) d h k = omega (arith, ints)
floor-le (negsuc a) (negsuc b) d h k = omega (arith, ints, div-le-div b a d h (omega (arith, ints)))

root-le-cases : (m n : ℕ) → m ≤ n → (root n < root m) ⊎ (root m ≤ root n) → root m ≤ root n
root-le-cases m n h (inl less) =
    let above : n < root m * root m = (is-root n).above (root m) less in
    let square : root m * root m ≤ m = (is-root m).square in
    absurd (omega arith)
root-le-cases m n h (inr k) = k

pub root-le : (m n : ℕ) → m ≤ n → root m ≤ root n
root-le m n h = root-le-cases m n h (cases_lt (root n) (root m))

-- the product of two numbers, rounded down, in each factor
abbrev pub product : ℤ → ℤ → ℤ
product a b = floor_div (a *ℤ b) one

pub product-up : (x y k : ℤ) → x ≤ℤ y → pos 0 ≤ℤ k → product x k ≤ℤ product y k
product-up x y k h l = floor-le (x *ℤ k) (y *ℤ k) one (lit< tt) (times_up x y k h l)

pub product-down : (x y k : ℤ) → x ≤ℤ y → k ≤ℤ pos 0 → product y k ≤ℤ product x k
product-down x y k h l = floor-le (y *ℤ k) (x *ℤ k) one (lit< tt) (times_down x y k h l)

pub product-comm : (a b : ℤ) → product a b ≡ product b a
product-comm a b = ap (λ z. floor_div z one) (*ℤ_comm a b)

pub product-right-up : (k x y : ℤ) → x ≤ℤ y → pos 0 ≤ℤ k → product k x ≤ℤ product k y
product-right-up k x y h l = rw (product-comm k x, product-comm k y) (product-up x y k h l)

pub product-right-down : (k x y : ℤ) → x ≤ℤ y → k ≤ℤ pos 0 → product k y ≤ℤ product k x
product-right-down k x y h l = rw (product-comm k x, product-comm k y) (product-down x y k h l)

-- the quotient by a divisor above 0, rounded down, in the dividend and in the divisor
abbrev pub quotient : ℤ → ℕ → ℤ
quotient a d = floor_div (a *ℤ pos one) d

pub quotient-up : (x y : ℤ) (d : ℕ) → 0 < d → x ≤ℤ y → quotient x d ≤ℤ quotient y d
quotient-up x y d h k =
    floor-le (x *ℤ pos one) (y *ℤ pos one) d h (times_up x y (pos one) k (le_z_yes tt))

div-anti : (n d e : ℕ) → 0 < d → d ≤ e → n / e ≤ n / d
div-anti n d e h k =
    let below : n / e * e ≤ n = div-mul-le_self n e in
    let less : n / e * d ≤ n / e * e = mul-le-mul_left (n / e) k in
    le-div (n / e) n d h (omega arith)

floor-down : (z : ℤ) (d e : ℕ) → 0 < d → d ≤ e → pos 0 ≤ℤ z → floor_div z e ≤ℤ floor_div z d
floor-down (pos n) d e h k l = omega (arith, ints, div-anti n d e h k)
floor-down (negsuc n) d e h k l = absurd (omega (arith, ints))

floor-rise : (z : ℤ) (d e : ℕ) → 0 < d → d ≤ e → z ≤ℤ pos 0 → floor_div z d ≤ℤ floor_div z e
floor-rise (pos zero) d e h k l = rw (zero-div d, zero-div e) (≤ℤ_refl (pos 0))
floor-rise (pos (suc n)) d e h k l = absurd (omega (arith, ints))
floor-rise (negsuc n) d e h k l = omega (arith, ints, div-anti n d e h k)

pub quotient-down : (a : ℤ) (d e : ℕ) → 0 < d → d ≤ e → pos 0 ≤ℤ a → quotient a e ≤ℤ quotient a d
quotient-down a d e h k l =
    floor-down (a *ℤ pos one) d e h k (times_up (pos 0) a (pos one) l (le_z_yes tt))

pub quotient-rise : (a : ℤ) (d e : ℕ) → 0 < d → d ≤ e → a ≤ℤ pos 0 → quotient a d ≤ℤ quotient a e
quotient-rise a d e h k l =
    floor-rise (a *ℤ pos one) d e h k (times_up a (pos 0) (pos one) l (le_z_yes tt))
