-- The plain operations: fixed-point arithmetic on numbers, rounded down. Each is undefined where
-- its result is no number or its domain is left. (Own choice of this project.)
use Rattle.std.specs.Prelude.{ℕ, zero, suc, ◌*◌, ◌/◌, ℤ, pos, negsuc, ◌+ℤ◌, ◌-ℤ◌, ◌*ℤ◌, Option}
use Rattle.std.specs.Prelude.{Some, None}
use Rattle.ldp_num.specs.Number.{one, number}
use Rattle.ldp_num.specs.Root.{root}

-- z / d, rounded down, for d above 0
abbrev pub floor_div : ℤ → ℕ → ℤ
floor_div (pos a) d = pos (a / d)
floor_div (negsuc a) d = negsuc (a / d)

-- the sum, which is exact
abbrev pub plain_add : ℤ → ℤ → Option ℤ
plain_add a b = number (a +ℤ b)

-- the difference, which is exact
abbrev pub plain_sub : ℤ → ℤ → Option ℤ
plain_sub a b = number (a -ℤ b)

-- the product, rounded down
abbrev pub plain_mul : ℤ → ℤ → Option ℤ
plain_mul a b = number (floor_div (a *ℤ b) one)

-- the quotient, rounded down, for a divisor above 0
abbrev pub plain_div : ℤ → ℤ → Option ℤ
plain_div a (pos zero) = None
plain_div a (pos (suc d)) = number (floor_div (a *ℤ pos one) (suc d))
plain_div a (negsuc d) = None

-- the product with itself, rounded down
abbrev pub plain_sq : ℤ → Option ℤ
plain_sq a = plain_mul a a

-- the greatest w with w * w ≤ a * one, for a of at least 0
abbrev pub plain_sqrt : ℤ → Option ℤ
plain_sqrt (pos a) = number (pos (root (a * one)))
plain_sqrt (negsuc a) = None

-- a itself, where it is at least 0: how a formula states its domain
abbrev pub plain_need : ℤ → Option ℤ
plain_need (pos a) = Some (pos a)
plain_need (negsuc a) = None
