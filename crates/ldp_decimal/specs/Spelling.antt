-- The number grammar, as its texts are spelled: a text is in the grammar where it is the text of
-- such pieces. (The notation of ISO 6093 NR3; the limits, and the exponent that may be left out,
-- are own choices of this project.)
use Rattle.std.specs.Prelude.{◌≡◌, ℕ, ◌+◌, ◌≤◌, Bool, true, false, List, [], ◌∷◌, ◌++◌, length}
use Rattle.std.specs.Prelude.{Option, Some, None, unwrap_or, if◌then◌else◌}
use Rattle.ldp_decimal.specs.Grammar.{AreDigits, Parts, value}

-- what stands in front of the digits: nothing, `+` or `-`
pub data Sign : Type 0 where
  unsigned plus minus : Sign

-- the byte of a sign, or nothing
abbrev pub sign_text : Sign → List ℕ
sign_text unsigned = []
sign_text plus = 43 ∷ []
sign_text minus = 45 ∷ []

-- whether the number, or the power of ten, is negated
abbrev pub is_minus : Sign → Bool
is_minus unsigned = false
is_minus plus = false
is_minus minus = true

-- an exponent: whether its letter is a capital, its sign, and its digits
pub record Exponent : Type 0 where
  pub capital : Bool
  pub sign : Sign
  pub power : List ℕ

-- the pieces of a text; `further` are the digits behind the point, and None where there is no point
pub record Spelling : Type 0 where
  pub sign : Sign
  pub whole : List ℕ
  pub further : Option (List ℕ)
  pub exponent : Option Exponent

-- the point and the digits behind it; nothing if there is no point
abbrev pub point_text : Option (List ℕ) → List ℕ
point_text None = []
point_text (Some ds) = 46 ∷ ds

-- `E` or `e`
abbrev pub letter : Bool → ℕ
letter true = 69
letter false = 101

-- the letter, the sign and the digits of an exponent; nothing if there is none
abbrev pub exponent_text : Option Exponent → List ℕ
exponent_text None = []
exponent_text (Some e) = letter e.capital ∷ (sign_text e.sign ++ e.power)

-- the text of the pieces
abbrev pub spelling_text : Spelling → List ℕ
spelling_text s =
    sign_text s.sign ++ (s.whole ++ (point_text s.further ++ exponent_text s.exponent))

-- one to four digits
abbrev pub IsExponent : Option Exponent → Type 0
IsExponent None = Unit {0}
IsExponent (Some e) = AreDigits e.power × (1 ≤ length e.power) × (length e.power ≤ 4)

-- digits, at least one beside the exponent, and at most 64 bytes in all
pub record IsSpelling (s : Spelling) : Type 0 where
  pub whole : AreDigits s.whole
  pub further : AreDigits (unwrap_or s.further [])
  pub some : 1 ≤ length s.whole + length (unwrap_or s.further [])
  pub exponent : IsExponent s.exponent
  pub short : length (spelling_text s) ≤ 64

-- the powers of ten by which an exponent multiplies and divides; at least one of them is 0
abbrev pub powers : Option Exponent → ℕ × ℕ
powers None = (0, 0)
powers (Some e) = if is_minus e.sign then (0, value e.power) else (value e.power, 0)

-- the parts of a text with these pieces
abbrev pub parts_told : Spelling → Parts
parts_told s = record {
  negative = is_minus s.sign;
  whole = s.whole;
  fraction = unwrap_or s.further [];
  raise = (powers s.exponent).0;
  lower = (powers s.exponent).1;
}

-- a text with these parts is the text of such pieces
pub record Spelled (text : List ℕ) (p : Parts) : Type 0 where
  pub spelling : Spelling
  pub is : IsSpelling spelling
  pub same : spelling_text spelling ≡ text
  pub told : parts_told spelling ≡ p
