-- A number has one spelling: a text is read as a number exactly where it is the text that is
-- written for it. So leading zeros, a sign that is not needed, an exponent, and zeros at the end of
-- a trimmed number are not read (own choice of this project).
use Rattle.std.specs.Prelude.{◌≡◌, ℕ, ◌≤◌, ◌&&◌, nat_le, ℤ, int_le, ◌≤ℤ◌, unsigned_abs, List}
use Rattle.std.specs.Prelude.{[], ◌∷◌, ◌++◌, replicate, Option, Some, None, option_and_then, Result}
use Rattle.std.specs.Prelude.{Ok, Err, bytes_eq, decimal, if◌then◌else◌}
use Rattle.ldp_num.specs.Number.{limit}
use Rattle.ldp_decimal.specs.declared.fault.NumFault.{NumFault}
use Rattle.ldp_decimal.specs.Reading.{decimal_of}
use Rattle.ldp_decimal.specs.Writing.{decimal_text, trimmed_text}

-- a number from low to high, where the text is what is written for it
abbrev pub as_written : (ℤ → List ℕ) → ℤ → ℤ → List ℕ → Result ℤ NumFault → Option ℤ
as_written write low high text (Err fault) = None
as_written write low high text (Ok z) =
    if int_le low z && (int_le z high && bytes_eq (write z) text) then Some z else None

-- the number of units of 10^-places, from low to high, whose trimmed text this is
unfoldable pub trimmed_in : ℕ → ℤ → ℤ → List ℕ → Option ℤ
trimmed_in places low high text =
    as_written (trimmed_text places) low high text (decimal_of places limit text)

-- the same with all its places
unfoldable pub fixed_in : ℕ → ℤ → ℤ → List ℕ → Option ℤ
fixed_in places low high text =
    as_written (decimal_text places) low high text (decimal_of places limit text)

-- n, if it is from low to high and the text is the one that is written for it
abbrev pub whole_as : ℕ → ℕ → List ℕ → ℕ → Option ℕ
whole_as low high text n =
    if nat_le low n && (nat_le n high && bytes_eq (decimal n) text) then Some n else None

-- the absolute value of a number that was read; None if none was
abbrev pub magnitude_of : Result ℤ NumFault → Option ℕ
magnitude_of (Err fault) = None
magnitude_of (Ok z) = Some (unsigned_abs z)

-- the whole number from low to high whose digits these are
unfoldable pub whole_in : ℕ → ℕ → List ℕ → Option ℕ
whole_in low high text =
    option_and_then (whole_as low high text) (magnitude_of (decimal_of 0 limit text))

-- a point, so many zeros and the digits, and nothing where there are no digits
abbrev pub behind_point : ℕ → List ℕ → List ℕ
behind_point count [] = []
behind_point count (d ∷ ds) = 46 ∷ (replicate count 48 ++ d ∷ ds)

-- the text is what is written for a number from low to high
pub record IsWritten (write : ℤ → List ℕ) (low high : ℤ) (text : List ℕ) (z : ℤ) : Type 0 where
  pub above : low ≤ℤ z
  pub below : z ≤ℤ high
  pub spelled : text ≡ write z

-- the text is what is written for a whole number from low to high
pub record IsWhole (low high : ℕ) (text : List ℕ) (n : ℕ) : Type 0 where
  pub above : low ≤ n
  pub below : n ≤ high
  pub spelled : text ≡ decimal n
