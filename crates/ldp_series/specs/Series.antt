-- The written series: polynomials and truncated power series by Horner's rule. (Own choice of this
-- project.)
use Rattle.std.specs.Prelude.{ℕ, zero, suc, ◌+◌, ◌-◌, ◌*◌, ℤ, pos, neg_ℤ, List, [], ◌∷◌, ◌++◌}
use Rattle.ldp_series.specs.Draft.{Formula}
use Rattle.ldp_series.specs.Formula.{answer, #, whole, units, fraction_units, ◌+ᶠ◌, ◌-ᶠ◌, ◌*ᶠ◌}
use Rattle.ldp_series.specs.Formula.{◌/ᶠ◌, square, √, ◌>>=◌}

-- r x + c
unfoldable pub horner : ℕ → ℤ → ℕ → Formula ℕ
horner x c r = # r *ᶠ # x +ᶠ units c

-- c0 + x (c1 + x (c2 + ..)), the constants in units
unfoldable pub polynomial : ℕ → List ℤ → Formula ℕ
polynomial x [] = whole 0
polynomial x (c ∷ []) = units c
polynomial x (c ∷ d ∷ more) = do
  rest ← polynomial x (d ∷ more)
  horner x c rest

-- one round for each of these whole numbers in turn, each over the answer before, from this one on
unfoldable pub in_turn : (ℕ → ℕ → Formula ℕ) → List ℕ → ℕ → Formula ℕ
in_turn round [] r = answer r
in_turn round (d ∷ more) r = do
  next ← round r d
  in_turn round more next

-- 1 - (z r) / d, with d a whole number
unfoldable pub round : ℕ → ℕ → ℕ → Formula ℕ
round z r d = whole 1 -ᶠ # z *ᶠ # r /ᶠ whole d

-- r = 1 - (z r) / d for each of these whole numbers d in turn, from this r on
abbrev pub alternating : ℕ → List ℕ → ℕ → Formula ℕ
alternating z divisors r = in_turn (round z) divisors r

-- 1 + (y r) / d, with d a whole number
unfoldable pub growing_round : ℕ → ℕ → ℕ → Formula ℕ
growing_round y r d = whole 1 +ᶠ # y *ᶠ # r /ᶠ whole d

-- r = 1 + (y r) / d for each of these whole numbers d in turn, from this r on
abbrev pub growing : ℕ → List ℕ → ℕ → Formula ℕ
growing y divisors r = in_turn (growing_round y) divisors r

-- f k, .., f 2, f 1
abbrev pub descending : (ℕ → ℕ) → ℕ → List ℕ
descending f zero = []
descending f (suc k) = f (suc k) ∷ descending f k

-- sin x = x (1 - x² / (2 3) (1 - x² / (4 5) (..))), thirteen terms after the first
unfoldable pub sine : ℕ → Formula ℕ
sine x = do
  z ← square (# x)
  first ← whole 1
  r ← alternating z (descending (λ k. 2 * k * (2 * k + 1)) 13) first
  # x *ᶠ # r

-- cos x = 1 - x² / (1 2) (1 - x² / (3 4) (..)), thirteen terms after the first
unfoldable pub cosine : ℕ → Formula ℕ
cosine x = do
  z ← square (# x)
  first ← whole 1
  alternating z (descending (λ k. (2 * k - 1) * (2 * k)) 13) first

-- so many times in a row, each over the answer before
unfoldable pub repeated : ℕ → (ℕ → Formula ℕ) → ℕ → Formula ℕ
repeated zero formula x = answer x
repeated (suc k) formula x = do
  y ← formula x
  repeated k formula y

-- f 0, f 1, .., f (k - 1)
abbrev pub first_values : (ℕ → ℤ) → ℕ → List ℤ
first_values f zero = []
first_values f (suc k) = first_values f k ++ f k ∷ []

-- y (c0 + c1 y² + c2 y⁴ + ..), the constants in units
unfoldable pub odd_polynomial : ℕ → List ℤ → Formula ℕ
odd_polynomial y coefficients = do
  z ← square (# y)
  p ← polynomial z coefficients
  # y *ᶠ # p

-- (-1)^k
abbrev pub sign : ℕ → ℤ
sign zero = pos 1
sign (suc k) = neg_ℤ (sign k)

-- (-1)^k / (2k + 1) in units, rounded down
abbrev pub arctangent_coefficient : ℕ → ℤ
arctangent_coefficient k = fraction_units (sign k) (2 * k + 1)

-- tan (θ / 2) of x = tan θ, for θ between -π/2 and π/2: x / (1 + √(1 + x²))
unfoldable pub half_angle : ℕ → Formula ℕ
half_angle x = # x /ᶠ (whole 1 +ᶠ √ (whole 1 +ᶠ square (# x)))

-- atan x = 8 atan y, with y the tangent of the angle halved three times, and atan y = y (1 - y²/3 +
-- y⁴/5 - ..), ten terms after the first
unfoldable pub arctangent : ℕ → Formula ℕ
arctangent x = do
  y ← repeated 3 half_angle x
  odd_polynomial y (first_values arctangent_coefficient 11) *ᶠ whole 8

-- 1 / (2k + 1) in units, rounded down
abbrev pub logarithm_coefficient : ℕ → ℤ
logarithm_coefficient k = fraction_units (pos 1) (2 * k + 1)

-- (r - 1) / (r + 1), the hyperbolic tangent of ln r / 2
unfoldable pub difference_over_sum : ℕ → Formula ℕ
difference_over_sum r = (# r -ᶠ whole 1) /ᶠ (# r +ᶠ whole 1)

-- ln x = 32 ln r, with r the square root taken five times, and ln r = 2 artanh y with y = (r - 1) /
-- (r + 1), where artanh y = y (1 + y²/3 + y⁴/5 + ..), nine terms after the first
unfoldable pub logarithm : ℕ → Formula ℕ
logarithm x = do
  r ← repeated 5 (λ y. √ (# y)) x
  y ← difference_over_sum r
  odd_polynomial y (first_values logarithm_coefficient 10) *ᶠ whole 64

-- exp x = (exp y)^16 with y = x / 16, and exp y = 1 + y/1 (1 + y/2 (1 + y/3 (..))), twelve terms
-- after the first
unfoldable pub exponential : ℕ → Formula ℕ
exponential x = do
  y ← # x /ᶠ whole 16
  first ← whole 1
  r ← growing y (descending (λ k. k) 12) first
  repeated 4 (λ s. square (# s)) r
