-- A product of two numbers fits 128 bits.
use Rattle.std.proofs.Common.{◌≤◌, ℤ, pos, negsuc, ◌*ℤ◌, FitsSigned, unsigned_abs, arith}
use Rattle.std.specs.Int.{w128}
use Rattle.std.proofs.lemmas.Int.{ints, fits_signed_mul}
use Rattle.ldp_num.specs.Number.{IsNumber, limit}

number-abs : (z : ℤ) → IsNumber z → unsigned_abs z ≤ limit
number-abs (pos n) h = omega (arith, ints)
number-abs (negsuc n) h = omega (arith, ints)

pub fits-product : (a b : ℤ) → IsNumber a → IsNumber b → FitsSigned w128 (a *ℤ b)
fits-product a b h k =
    fits_signed_mul w128 a b limit limit (number-abs a h) (number-abs b k) (omega arith)
