-- Ranges of whole numbers; both ends belong to a range.
use Rattle.std.specs.Prelude.{ℕ, Bool, ◌&&◌, ℤ, int_le, ◌≤ℤ◌, List, Option, Some, None}
use Rattle.std.specs.Prelude.{option_and_then, Result, Ok, Err, if◌then◌else◌}
use Rattle.ldp_decimal.specs.Reading.{decimal_value}
use Rattle.ldp_quantity.specs.declared.unfit.Unfit.{Unfit}
use Rattle.ldp_quantity.specs.declared.unfit.Unfit.TheVariants.{NotANumber, OutOfRange}

-- the test whether n is from low to high, both included
abbrev pub int_between : ℤ → ℤ → ℤ → Bool
int_between low high n = int_le low n && int_le n high

-- n is from low to high, both included
abbrev pub IsBetween : ℤ → ℤ → ℤ → Type 0
IsBetween low high n = (low ≤ℤ n) × (n ≤ℤ high)

-- the number, if there is one and it lies in the range
abbrev pub number_between : ℤ → ℤ → Option ℤ → Option ℤ
number_between low high number =
    option_and_then (λ n. if int_between low high n then Some n else None) number

-- the number, or why there is none of the range
abbrev pub fit_between : ℤ → ℤ → Option ℤ → Result ℤ Unfit
fit_between low high None = Err NotANumber
fit_between low high (Some n) = if int_between low high n then Ok n else Err OutOfRange

-- the number of a decimal text in units of 10^-places, rounded half away from zero, where it then
-- lies in the range
unfoldable pub number_from_to : ℕ → ℤ → ℤ → List ℕ → Result ℤ Unfit
number_from_to places low high text = fit_between low high (decimal_value places text)
