-- A number that is passed on is the same number.
use Rattle.std.proofs.Common.{◌≡◌, ℤ, pos, negsuc, FitsSigned, to_z, of_z, arith}
use Rattle.std.specs.Int.{w128}
use Rattle.std.proofs.lemmas.Int.{ints, to_z-of_z}
use Rattle.ldp_num.specs.Number.{IsNumber}

number-fits : (z : ℤ) → IsNumber z → FitsSigned w128 z
number-fits (pos n) h = record { sfits = omega (arith, ints) }
number-fits (negsuc n) h = record { sfits = omega (arith, ints) }

pub number-passed : (z : ℤ) → IsNumber z → to_z w128 (of_z w128 z) ≡ z
number-passed z h = to_z-of_z w128 z (number-fits z h)
