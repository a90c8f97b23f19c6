-- The number that a text stands for is an exact fraction. It is rounded to the nearest whole number
-- of units, and a half is rounded away from zero. (Own choice of this project.)
use Rattle.std.specs.Prelude.{ℕ, ◌+◌, ◌*◌, ◌/◌, ◌^◌, Bool, true, false, ℤ, pos, neg_ℤ, ◌++◌, length}
use Rattle.ldp_decimal.specs.Grammar.{Parts, value}

-- numerator / denominator, or its opposite
pub record Fraction : Type 0 where
  pub negative : Bool
  pub numerator : ℕ
  pub denominator : ℕ

-- the fraction of the parts of a text: all its digits, without the point, over a power of ten
abbrev pub fraction_of : Parts → Fraction
fraction_of p = record {
  negative = p.negative;
  numerator = value (p.whole ++ p.fraction) * 10 ^ p.raise;
  denominator = 10 ^ (length p.fraction + p.lower);
}

-- n / d to the nearest whole number, a half upward: the whole part of n / d + 1/2
unfoldable pub rounded : ℕ → ℕ → ℕ
rounded n d = (2 * n + d) / (2 * d)

-- n with a sign
abbrev pub with_sign : Bool → ℕ → ℤ
with_sign false n = pos n
with_sign true n = neg_ℤ (pos n)

-- the magnitude of a fraction in units of 10^-places, rounded
abbrev pub magnitude : ℕ → Fraction → ℕ
magnitude places x = rounded (x.numerator * 10 ^ places) x.denominator

-- a fraction in units of 10^-places, rounded half away from zero
abbrev pub nearest : ℕ → Fraction → ℤ
nearest places x = with_sign x.negative (magnitude places x)
