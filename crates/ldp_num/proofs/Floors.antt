-- Floors of quotients by a whole unit.
use Rattle.std.proofs.Common.{◌≡◌, ℕ, ◌/◌, ℤ, pos, negsuc, ◌+ℤ◌, ◌-ℤ◌, arith}
use Rattle.std.proofs.lemmas.Int.{ints}
use Rattle.ldp_num.specs.Number.{one}
use Rattle.ldp_num.specs.Plain.{floor_div}

-- with 2^61 whole units added, the quotient is 2^61 more
pub floor-biased : (z : ℤ) (n : ℕ) → z +ℤ pos 2305843009213693952000000000000000 ≡ pos n
    → pos (n / one) -ℤ pos 2305843009213693952 ≡ floor_div z one
floor-biased (pos a) n h = omega (arith, ints)
floor-biased (negsuc a) n h = omega (arith, ints)

pub ruleset floors = (floor-biased)
