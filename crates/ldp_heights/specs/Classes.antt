-- What the text of a height, or of the header's NODATA_value, stands for. The limit is this
-- project's own choice.
use Rattle.std.specs.Prelude.{ℕ, ℤ, unsigned_abs, Bool, true, false, List, Option, Some, None}
use Rattle.std.specs.Prelude.{Result}
use Rattle.std.specs.Prelude.{Ok, Err, if◌then◌else◌, codes}
use Rattle.std.specs.Str.{str_eq_ignore_ascii_case}
use Rattle.std.specs.Ordering.{int_eq}
use Rattle.ldp_decimal.specs.Reading.{decimal_of}
use Rattle.ldp_decimal.specs.declared.fault.NumFault.{NumFault}
use Rattle.ldp_decimal.specs.declared.fault.NumFault.TheVariants.{NotANumber, TooLarge}
use Rattle.ldp_heights.specs.Grid.{metres}

-- not a number, a number that is too great in absolute value, or a whole number of millimetres
pub data Class : Type 0 where
  nan too_high too_low : Class
  millimetres : ℤ → Class

-- `nan` in any case
abbrev pub is_nan : List ℕ → Bool
is_nan bytes = str_eq_ignore_ascii_case bytes (codes "nan")

-- the class of a number of metres, rounded to millimetres
abbrev pub number_class : Result ℤ NumFault → Option Class
number_class (Ok n) = Some (millimetres n)
number_class (Err (TooLarge false)) = Some too_high
number_class (Err (TooLarge true)) = Some too_low
number_class (Err NotANumber) = None

-- the class of a text; None where it is neither `nan` nor a number
unfoldable pub class_of : List ℕ → Option Class
class_of bytes =
    if is_nan bytes then Some nan
    else number_class (decimal_of 3 (unsigned_abs (metres 100_000)) bytes)

-- whether two classes are equal; of two numbers all millimetres must be equal
abbrev pub same_class : Class → Class → Bool
same_class nan nan = true
same_class (millimetres n) (millimetres m) = int_eq n m
same_class too_high too_high = true
same_class too_low too_low = true
same_class _ _ = false
