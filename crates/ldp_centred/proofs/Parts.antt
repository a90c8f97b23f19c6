-- The parts of a result, put together.
use Rattle.std.proofs.Common.{◌≡◌, ◌≤ℤ◌, ◌+ℤ◌, ℤ, pos, List, Option, Some, arith}
use Rattle.std.proofs.lemmas.Int.{ints}
use Rattle.ldp_num.specs.Number.{number}
use Rattle.ldp_num.specs.Plain.{plain_add}
use Rattle.ldp_num.specs.Slopes.{Known, made, plus}
use Rattle.ldp_centred.proofs.Centring.{then-some}

pub made-same : (c d e f : Option ℤ) (s t : Option (List (ℤ × ℤ))) → c ≡ d → e ≡ f → s ≡ t
    → made c e s ≡ made d f t
made-same c d e f s t p q r = rw (p, q, r)

-- r is f of the parts of two values
pub viewed : (r : Option Known) (f : Known → Known → Option Known) (k l m n : Known) → k ≡ m → l ≡ n
    → r ≡ f k l → r ≡ f m n
viewed r f k l m n p q e = rw (← p, ← q) e

-- a number is what it is taken from
pub number-is : (z n : ℤ) → number z ≡ Some n → n ≡ z
number-is z n e = grind (arith, ints)

-- a sum with the low end is at most one, some units more, with the high end
pub sums-ordered : (a b c l h : ℤ) → a ≤ℤ b → plain_add a c ≡ Some l
    → plus (plain_add b c) (pos 2) ≡ Some h → l ≤ℤ h
sums-ordered a b c l h k d e =
    let t = then-some (λ n. plain_add n (pos 2)) (plain_add b c) h e in
    let low = number-is (a +ℤ c) l d in
    let middle = number-is (b +ℤ c) t.0 t.1.0 in
    let high = number-is (t.0 +ℤ pos 2) h t.1.1 in
    omega (arith, ints, low, middle, high, k)
