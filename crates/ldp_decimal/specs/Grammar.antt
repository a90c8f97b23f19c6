-- The number grammar: an optional sign; decimal digits with at most one point among or around them,
-- and at least one digit; an optional exponent, which is `e` or `E`, an optional sign and one to
-- four digits. At most 64 bytes. (The notation of ISO 6093 NR3; the limits, and the exponent that
-- may be left out, are own choices of this project.)
use Rattle.std.specs.Prelude.{◌≤◌, ℕ, ◌+◌, ◌-◌, ◌*◌, ◌==◌, nat_le, ◌&&◌, ◌||◌, Bool, true, false}
use Rattle.std.specs.Prelude.{List, [], ◌∷◌, length, take, drop, Option, Some, None}
use Rattle.std.specs.Prelude.{option_and_then, if◌then◌else◌}
use Rattle.std.specs.List.{prefix_len, list_all}
use Rattle.std.specs.Char.{is_ascii_digit}

-- The parts of a number's text. An exponent k of 0 or more is `raise` k and `lower` 0; an exponent
-- of -k is `raise` 0 and `lower` k.
pub record Parts : Type 0 where
  pub negative : Bool
  pub whole : List ℕ
  pub fraction : List ℕ
  pub raise : ℕ
  pub lower : ℕ

-- decimal digits
abbrev pub AreDigits : List ℕ → Type 0
AreDigits [] = Unit {0}
AreDigits (d ∷ ds) = ((48 ≤ d) × (d ≤ 57)) × AreDigits ds

-- the number that digits stand for, after a number already read
abbrev pub value_after : ℕ → List ℕ → ℕ
value_after n [] = n
value_after n (d ∷ ds) = value_after (n * 10 + (d - 48)) ds

-- the number that digits stand for
abbrev pub value : List ℕ → ℕ
value digits = value_after 0 digits

-- an optional sign: true if it is a minus, and what follows it
abbrev pub signed : List ℕ → Bool × List ℕ
signed [] = (false, [])
signed (b ∷ bs) = if b == 45 then (true, bs) else if b == 43 then (false, bs) else (false, b ∷ bs)

-- the digits in front, and what follows them
abbrev pub digits : List ℕ → List ℕ × List ℕ
digits bs = (take (prefix_len is_ascii_digit bs) bs, drop (prefix_len is_ascii_digit bs) bs)

-- an optional point with the digits behind it, and what follows them
abbrev pub behind_point : List ℕ → List ℕ × List ℕ
behind_point [] = ([], [])
behind_point (b ∷ bs) = if b == 46 then digits bs else ([], b ∷ bs)

-- the digits of an exponent with its sign, as `raise` and `lower`
unfoldable pub power : Bool → List ℕ → Option (ℕ × ℕ)
power negative ds =
    if list_all is_ascii_digit ds && (nat_le 1 (length ds) && nat_le (length ds) 4)
    then Some (if negative then (0, value ds) else (value ds, 0))
    else None

-- an optional exponent, after which nothing may stand
unfoldable pub exponent : List ℕ → Option (ℕ × ℕ)
exponent [] = Some (0, 0)
exponent (b ∷ bs) = if (b == 101) || (b == 69) then power (signed bs).0 (signed bs).1 else None

-- the parts together, where there is a digit
unfoldable pub with_exponent : Bool → List ℕ → List ℕ → ℕ × ℕ → Option Parts
with_exponent negative whole fraction e =
    if nat_le 1 (length whole + length fraction)
    then Some record {
      negative = negative;
      whole = whole;
      fraction = fraction;
      raise = e.0;
      lower = e.1;
    }
    else None

-- the parts of a text of any length
unfoldable pub parts_of : List ℕ → Option Parts
parts_of text =
    let sign = signed text in
    let whole = digits sign.1 in
    let fraction = behind_point whole.1 in
    option_and_then (with_exponent sign.0 whole.0 fraction.0) (exponent fraction.1)

-- the parts of a text, where it is in the grammar
unfoldable pub parts : List ℕ → Option Parts
parts text = if nat_le (length text) 64 then parts_of text else None
