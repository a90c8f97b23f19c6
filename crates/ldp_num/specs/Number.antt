-- Numbers: a whole n of at most 10^19 in absolute value, which stands for n / 10^15. (Own choice of
-- this project.)
use Rattle.std.specs.Prelude.{◌&&◌, ◌^◌, int_le, ℕ, Bool, ℤ, pos, neg_ℤ, ◌≤ℤ◌, Option, Some, None}
use Rattle.std.specs.Prelude.{if◌then◌else◌}

-- the units that make one
abbrev pub one : ℕ
one = 10 ^ 15

-- the greatest number, in units: it stands for 10,000
abbrev pub limit : ℕ
limit = 10 ^ 19

-- from -10^19 to 10^19, both included
pub record IsNumber (z : ℤ) : Type 0 where
  pub low : neg_ℤ (pos limit) ≤ℤ z
  pub high : z ≤ℤ pos limit

-- the test whether a whole number is within these limits
abbrev pub is_number : ℤ → Bool
is_number z = int_le (neg_ℤ (pos limit)) z && int_le z (pos limit)

-- z, if it is a number
abbrev pub number : ℤ → Option ℤ
number z = if is_number z then Some z else None
