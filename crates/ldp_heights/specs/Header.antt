-- The header of an Esri ASCII grid: pairs of a word and a value, each word in any case and in any
-- order. The words are those of Esri's raster format; the ranges and the faults with their places
-- are this project's own choice.
use Rattle.std.specs.Prelude.{ℕ, ◌*◌, Bool, false, ◌||◌, ◌&&◌, ◌==◌, nat_le, ℤ, pos, neg_ℤ, nat_abs}
use Rattle.std.specs.Prelude.{List, [], ◌∷◌, Option, Some, None, is_some, unwrap_or, Result, Ok}
use Rattle.std.specs.Prelude.{Err}
use Rattle.std.specs.Prelude.{if◌then◌else◌, codes}
use Rattle.std.specs.List.{list_all}
use Rattle.std.specs.Char.{is_ascii_digit}
use Rattle.std.specs.Str.{str_eq_ignore_ascii_case}
use Rattle.ldp_decimal.specs.Grammar.{value}
use Rattle.ldp_quantity.specs.Results.{◌>>=◌}
use Rattle.ldp_quantity.specs.Between.{number_from_to}
use Rattle.ldp_quantity.specs.Quantity.{degrees}
use Rattle.ldp_quantity.specs.declared.unfit.Unfit.{Unfit}
use Rattle.ldp_quantity.specs.declared.unfit.Unfit.TheVariants.{NotANumber, OutOfRange as Outside}
use Rattle.ldp_tokens.specs.Tokens.{Token}
use Rattle.ldp_heights.specs.Grid.{Coordinate, corner, centre, metres, most_places}
use Rattle.ldp_heights.specs.Classes.{Class, millimetres, is_nan, class_of}
use Rattle.ldp_heights.specs.declared.fault.Word.{Word}
use Rattle.ldp_heights.specs.declared.fault.Word.TheVariants as words
use Rattle.ldp_heights.specs.declared.fault.HeightFault.{HeightFault}
use Rattle.ldp_heights.specs.declared.fault.HeightFault.TheVariants.{MissingWord, UnknownWord}
use Rattle.ldp_heights.specs.declared.fault.HeightFault.TheVariants.{RepeatedWord}
use Rattle.ldp_heights.specs.declared.fault.HeightFault.TheVariants.{BadNumber, OutOfRange, TooMany}

-- a word of the header
pub data Name : Type 0 where
  ncols nrows xllcorner xllcenter yllcorner yllcenter cellsize nodata_value : Name

-- the values of the words that were met
pub record Header : Type 0 where
  pub ncols : Option ℕ
  pub nrows : Option ℕ
  pub x : Option Coordinate
  pub y : Option Coordinate
  pub cellsize : Option ℕ
  pub nodata : Option Class

-- no word was met
abbrev pub no_words : Header
no_words = record {
  ncols = None;
  nrows = None;
  x = None;
  y = None;
  cellsize = None;
  nodata = None;
}

-- what a whole header says of the grid; a height of the class `missing` is a gap
pub record Layout : Type 0 where
  pub cols : ℕ
  pub rows : ℕ
  pub x : Coordinate
  pub y : Coordinate
  pub spacing : ℕ
  pub missing : Class

-- the token begins with a digit, `+`, `-` or `.`
abbrev pub begins_number : List ℕ → Bool
begins_number [] = false
begins_number (byte ∷ bytes) = is_ascii_digit byte || byte == 43 || byte == 45 || byte == 46

-- a token with which the heights begin: it begins as a number does, or is `nan` in any case
abbrev pub begins_height : List ℕ → Bool
begins_height bytes = begins_number bytes || is_nan bytes

-- the word that a token is, in any case
unfoldable pub header_word : List ℕ → Option Name
header_word bytes =
    if str_eq_ignore_ascii_case bytes (codes "ncols") then Some ncols
    else if str_eq_ignore_ascii_case bytes (codes "nrows") then Some nrows
    else if str_eq_ignore_ascii_case bytes (codes "xllcorner") then Some xllcorner
    else if str_eq_ignore_ascii_case bytes (codes "xllcenter") then Some xllcenter
    else if str_eq_ignore_ascii_case bytes (codes "yllcorner") then Some yllcorner
    else if str_eq_ignore_ascii_case bytes (codes "yllcenter") then Some yllcenter
    else if str_eq_ignore_ascii_case bytes (codes "cellsize") then Some cellsize
    else if str_eq_ignore_ascii_case bytes (codes "nodata_value") then Some nodata_value
    else None

-- the word was met, or the other form of its coordinate
abbrev pub is_met : Header → Name → Bool
is_met met ncols = is_some met.ncols
is_met met nrows = is_some met.nrows
is_met met xllcorner = is_some met.x
is_met met xllcenter = is_some met.x
is_met met yllcorner = is_some met.y
is_met met yllcenter = is_some met.y
is_met met cellsize = is_some met.cellsize
is_met met nodata_value = is_some met.nodata

-- a word that may stand at a place of the text
abbrev pub new_word : Header → ℕ → Option Name → Result Name HeightFault
new_word met place None = Err (UnknownWord place)
new_word met place (Some word) = if is_met met word then Err (RepeatedWord place) else Ok word

-- the word of the header that a token is; a fault if there is no such word or it was met before
unfoldable pub word_at : Header → Token → Result Name HeightFault
word_at met token = new_word met token.place (header_word token.bytes)

-- a count from 1 to the most places, or the fault of the token at this place
abbrev pub count_at : ℕ → ℕ → Result ℕ HeightFault
count_at place n = if nat_le 1 n && nat_le n most_places then Ok n else Err (OutOfRange place)

-- a count of rows or columns: digits alone, from 1 to the most places
unfoldable pub count_of : Token → Result ℕ HeightFault
count_of token =
    if list_all is_ascii_digit token.bytes then count_at token.place (value token.bytes)
    else Err (BadNumber token.place)

-- the number of the token at a place, or its fault
abbrev pub fit_at : ℕ → Result ℤ Unfit → Result ℤ HeightFault
fit_at place (Ok n) = Ok n
fit_at place (Err NotANumber) = Err (BadNumber place)
fit_at place (Err Outside) = Err (OutOfRange place)

-- a number of degrees with 12 places, in units of 10^-12 degrees, from one number of units to
-- another
unfoldable pub degrees_of : ℤ → ℤ → Token → Result ℤ HeightFault
degrees_of low high token = fit_at token.place (number_from_to 12 low high token.bytes)

-- a given coordinate: -360 to 360 degrees
abbrev pub coordinate_of : Token → Result ℤ HeightFault
coordinate_of token = degrees_of (neg_ℤ (degrees 360)) (degrees 360) token

-- a spacing: above 0 and at most 10 degrees, after rounding
unfoldable pub spacing_of : Token → Result ℕ HeightFault
spacing_of token = degrees_of (pos 1) (degrees 10) token >>= λ n. Ok (nat_abs n)

-- the class of the token at this place; a fault if it is neither a number nor `nan`
abbrev pub class_or_fault : ℕ → Option Class → Result Class HeightFault
class_or_fault place None = Err (BadNumber place)
class_or_fault place (Some class) = Ok class

-- the class that the value of NODATA_value has; all heights of this class are gaps
abbrev pub nodata_of : Token → Result Class HeightFault
nodata_of token = class_or_fault token.place (class_of token.bytes)

-- the words met, with this word's value
unfoldable pub with_value : Header → Name → Token → Result Header HeightFault
with_value met ncols token = count_of token >>= λ n. Ok record met { ncols = Some n }
with_value met nrows token = count_of token >>= λ n. Ok record met { nrows = Some n }
with_value met xllcorner token = coordinate_of token >>= λ x. Ok record met { x = Some (corner x) }
with_value met xllcenter token = coordinate_of token >>= λ x. Ok record met { x = Some (centre x) }
with_value met yllcorner token = coordinate_of token >>= λ y. Ok record met { y = Some (corner y) }
with_value met yllcenter token = coordinate_of token >>= λ y. Ok record met { y = Some (centre y) }
with_value met cellsize token = spacing_of token >>= λ n. Ok record met { cellsize = Some n }
with_value met nodata_value token =
    nodata_of token >>= λ class. Ok record met { nodata = Some class }

-- a header that was read, and the tokens that follow it
pub record Headed : Type 0 where
  pub header : Header
  pub heights : List Token

-- the words met, and the tokens from the first height on
abbrev pub headed : Header → List Token → Headed
headed header heights = record { header = header; heights = heights }

-- the pairs in front of a list of tokens, after the words met before; the text has so many bytes
unfoldable pub header_of : ℕ → Header → List Token → Result Headed HeightFault
header_of end met [] = Ok (headed met [])
header_of end met (word ∷ []) =
    if begins_height word.bytes then Ok (headed met (word ∷ []))
    else (word_at met word >>= λ name. Err (BadNumber end))
header_of end met (word ∷ given ∷ rest) =
    if begins_height word.bytes then Ok (headed met (word ∷ given ∷ rest))
    else (word_at met word
    >>= λ name. with_value met name given
    >>= λ more. header_of end more rest)

-- the value of a word that may not be left out
abbrev pub needed : {A : Type 0} → Word → Option A → Result A HeightFault
needed word None = Err (MissingWord word)
needed word (Some given) = Ok given

-- a layout that does not have too many places
abbrev pub within_places : Layout → Result Layout HeightFault
within_places layout =
    if nat_le (layout.cols * layout.rows) most_places then Ok layout else Err TooMany

-- the class of -9999, which is missing where the header has no NODATA_value
abbrev pub missing_unnamed : Class
missing_unnamed = millimetres (neg_ℤ (metres 9999))

-- what a header without a fault says: every word but NODATA_value was met
unfoldable pub layout_of : Header → Result Layout HeightFault
layout_of met = do
  cols ← needed words.Ncols met.ncols
  rows ← needed words.Nrows met.nrows
  x ← needed words.X met.x
  y ← needed words.Y met.y
  spacing ← needed words.Cellsize met.cellsize
  within_places record {
    cols = cols;
    rows = rows;
    x = x;
    y = y;
    spacing = spacing;
    missing = unwrap_or met.nodata missing_unnamed;
  }
