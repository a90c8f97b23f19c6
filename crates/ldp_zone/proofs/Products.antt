-- A product of a wide and a narrow difference fits 128 bits.
use Rattle.std.proofs.Common.{◌≡◌, ◌≤◌, to_z, of_z, ℤ, pos, negsuc, ◌*ℤ◌, FitsSigned, unsigned_abs}
use Rattle.std.proofs.Common.{arith}
use Rattle.std.specs.Int.{w128}
use Rattle.std.proofs.lemmas.Int.{ints, fits_signed_mul, fits_signed_from_abs, to_z-of_z}
use Rattle.ldp_zone.specs.Products.{IsWide, IsNarrow}

wide-abs : (z : ℤ) → IsWide z → unsigned_abs z ≤ 200_000_000_000_000_000_000
wide-abs (pos n) h = omega (arith, ints)
wide-abs (negsuc n) h = omega (arith, ints)

narrow-abs : (z : ℤ) → IsNarrow z → unsigned_abs z ≤ 800_000_000_000_000
narrow-abs (pos n) h = omega (arith, ints)
narrow-abs (negsuc n) h = omega (arith, ints)

pub fits_product : (a b : ℤ) → IsWide a → IsNarrow b → FitsSigned w128 (a *ℤ b)
fits_product a b h k =
    fits_signed_mul w128 a b 200_000_000_000_000_000_000 800_000_000_000_000 (wide-abs a h)
    (narrow-abs b k) (omega arith)

pub wide_back : (z : ℤ) → IsWide z → to_z w128 (of_z w128 z) ≡ z
wide_back z h =
    let small : unsigned_abs z ≤ 200_000_000_000_000_000_000 = wide-abs z h in
    to_z-of_z w128 z (fits_signed_from_abs w128 z (omega arith))

pub narrow_back : (z : ℤ) → IsNarrow z → to_z w128 (of_z w128 z) ≡ z
narrow_back z h =
    let small : unsigned_abs z ≤ 800_000_000_000_000 = narrow-abs z h in
    to_z-of_z w128 z (fits_signed_from_abs w128 z (omega arith))

pub ruleset products = (fits_product, to_z-of_z)
