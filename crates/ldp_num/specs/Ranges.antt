-- The range operations. A range is a pair of numbers, low ≤ high, that stands for all numbers
-- between. (Own choice of this project; interval arithmetic, rounded down at both ends.)
use Rattle.std.specs.Prelude.{◌≤ℤ◌, int_le, ℤ, pos, List, [], ◌∷◌, Option, Some, None, option_map}
use Rattle.std.specs.Prelude.{unsigned_abs}
use Rattle.std.specs.Prelude.{option_and_then, if◌then◌else◌}
use Rattle.std.specs.Int.{int_min, int_max}
use Rattle.ldp_num.specs.Number.{IsNumber}
use Rattle.ldp_num.specs.Plain.{plain_add, plain_sub, plain_mul, plain_div, plain_sq, plain_sqrt}
use Rattle.ldp_num.specs.Plain.{plain_need}

-- both ends are numbers, and they are in order
pub record IsRange (low high : ℤ) : Type 0 where
  pub low_number : IsNumber low
  pub high_number : IsNumber high
  pub ordered : low ≤ℤ high

-- the two ends, where both are defined
abbrev pub ends : Option ℤ → Option ℤ → Option (ℤ × ℤ)
ends low high = option_and_then (λ l. option_map (λ h. (l, h)) high) low

-- the least of x and those of a list
abbrev pub minimum : ℤ → List ℤ → ℤ
minimum x [] = x
minimum x (y ∷ ys) = int_min x (minimum y ys)

-- the greatest of x and those of a list
abbrev pub maximum : ℤ → List ℤ → ℤ
maximum x [] = x
maximum x (y ∷ ys) = int_max x (maximum y ys)

-- the values of a list, where all are defined
abbrev pub all_defined : List (Option ℤ) → Option (List ℤ)
all_defined [] = Some []
all_defined (x ∷ xs) = option_and_then (λ v. option_map (λ vs. v ∷ vs) (all_defined xs)) x

-- the range from the least to the greatest of a list; None if it is empty
abbrev pub span : List ℤ → Option (ℤ × ℤ)
span [] = None
span (x ∷ xs) = Some (minimum x xs, maximum x xs)

-- the least range that holds these corner results, where all are defined
abbrev pub hull_of : List (Option ℤ) → Option (ℤ × ℤ)
hull_of corners = option_and_then span (all_defined corners)

-- the absolute value of a number
abbrev pub magnitude : ℤ → ℤ
magnitude n = pos (unsigned_abs n)

-- the greatest absolute value of the numbers of a range
abbrev pub pair_high_abs : ℤ × ℤ → ℤ
pair_high_abs a = int_max (magnitude a.0) (magnitude a.1)

-- the sum: that of the low ends, and that of the high ends
abbrev pub pair_add : ℤ × ℤ → ℤ × ℤ → Option (ℤ × ℤ)
pair_add a b = ends (plain_add a.0 b.0) (plain_add a.1 b.1)

-- the difference: the low end less the other's high end, and the high end less its low end
abbrev pub pair_sub : ℤ × ℤ → ℤ × ℤ → Option (ℤ × ℤ)
pair_sub a b = ends (plain_sub a.0 b.1) (plain_sub a.1 b.0)

-- the product: the least range that holds the products of all ends
abbrev pub pair_mul : ℤ × ℤ → ℤ × ℤ → Option (ℤ × ℤ)
pair_mul a b =
    hull_of (plain_mul a.0 b.0 ∷ plain_mul a.0 b.1 ∷ plain_mul a.1 b.0 ∷ plain_mul a.1 b.1 ∷ [])

-- the quotient, defined if the divisor's low end is above 0
abbrev pub pair_div : ℤ × ℤ → ℤ × ℤ → Option (ℤ × ℤ)
pair_div a b =
    hull_of (plain_div a.0 b.0 ∷ plain_div a.0 b.1 ∷ plain_div a.1 b.0 ∷ plain_div a.1 b.1 ∷ [])

-- the square; its low end is 0 if numbers of both signs lie in the range
abbrev pub pair_sq : ℤ × ℤ → Option (ℤ × ℤ)
pair_sq a =
    if int_le (pos 0) a.0 then ends (plain_sq a.0) (plain_sq a.1)
    else if int_le a.1 (pos 0) then ends (plain_sq a.1) (plain_sq a.0)
    else option_map (λ r. (pos 0, r.1)) (hull_of (plain_sq a.0 ∷ plain_sq a.1 ∷ []))

-- the roots of both ends, so defined if the low end is at least 0
abbrev pub pair_sqrt : ℤ × ℤ → Option (ℤ × ℤ)
pair_sqrt a = ends (plain_sqrt a.0) (plain_sqrt a.1)

-- the range itself, if its low end is at least 0
abbrev pub pair_need : ℤ × ℤ → Option (ℤ × ℤ)
pair_need a = ends (plain_need a.0) (plain_need a.1)
