-- Reading a decimal text as a whole number of units of 10^-places (own choice of this project).
use Rattle.std.specs.Prelude.{ℕ, nat_le, ℤ, pos, negsuc, unsigned_abs, Bool, true, false, List}
use Rattle.std.specs.Prelude.{Option, Some, None, option_map, Result, Ok, Err, if◌then◌else◌}
use Rattle.ldp_decimal.specs.Grammar.{parts}
use Rattle.ldp_decimal.specs.Fraction.{fraction_of, nearest}
use Rattle.ldp_decimal.specs.declared.fault.NumFault.{NumFault}
use Rattle.ldp_decimal.specs.declared.fault.NumFault.TheVariants.{NotANumber, TooLarge}

-- the rounded number of a text, however large; None where the text is not in the number grammar
unfoldable pub decimal_value : ℕ → List ℕ → Option ℤ
decimal_value places text = option_map (λ p. nearest places (fraction_of p)) (parts text)

-- whether a whole number is negative; 0 is not
abbrev pub is_below_zero : ℤ → Bool
is_below_zero (pos n) = false
is_below_zero (negsuc n) = true

-- a number, where its absolute value is at most the limit
abbrev pub within : ℕ → Option ℤ → Result ℤ NumFault
within limit None = Err NotANumber
within limit (Some z) =
    if nat_le (unsigned_abs z) limit then Ok z else Err (TooLarge (is_below_zero z))

-- the rounded number of a text, or why there is none: this is what `read_decimal` answers
unfoldable pub decimal_of : ℕ → ℕ → List ℕ → Result ℤ NumFault
decimal_of places limit text = within limit (decimal_value places text)
