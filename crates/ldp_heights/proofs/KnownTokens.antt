-- What is known of a token is enough to read it.
use Rattle.std.proofs.Common.{◌≡◌, ℕ, ◌+◌, ◌-◌, ◌*◌, ◌<◌, ◌≤◌, zero, suc, nat_le, nat_lt, nat_eq}
use Rattle.std.proofs.Common.{Bool, true, false, ◌&&◌, List, [], ◌∷◌, ◌++◌, length, take}
use Rattle.std.proofs.Common.{Ok, Err, arith, refl, sym, ap, ◌∙◌, if◌then◌else◌, codes, lit<}
use Rattle.std.proofs.Common.{ℤ}
use Rattle.std.proofs.lemmas.Bool.Decides.{nat_tests}
use Rattle.std.proofs.lemmas.List.{take_all, take-append-le, length_push, length-take}
use Rattle.std.proofs.lemmas.List.Folds.{list_all-append}
use Rattle.std.specs.List.{list_all}
use Rattle.std.specs.Char.{is_ascii_digit, to_ascii_lowercase}
use Rattle.std.specs.Str.{bytes_eq, str_to_ascii_lowercase, str_eq_ignore_ascii_case}
use Rattle.ldp_quantity.specs.Results.{◌>>=◌}
use Rattle.ldp_quantity.specs.Between.{number_from_to}
use Rattle.ldp_decimal.specs.Grammar.{value, value_after, parts}
use Rattle.ldp_decimal.specs.Reading.{decimal_value, decimal_of}
use Rattle.ldp_tokens.specs.Tokens.{Token}
use Rattle.ldp_heights.specs.Grid.{most_places}
use Rattle.ldp_heights.specs.Classes.{is_nan, class_of}
use Rattle.ldp_heights.specs.Header.{Header, Name, ncols, nrows, xllcorner, xllcenter, yllcorner}
use Rattle.ldp_heights.specs.Header.{yllcenter, cellsize, nodata_value, begins_number}
use Rattle.ldp_heights.specs.Header.{begins_height, header_word, word_at, count_at, count_of}
use Rattle.ldp_heights.specs.Header.{degrees_of, spacing_of, with_value}
use Rattle.ldp_heights.specs.Reading.{height_of}
use Rattle.ldp_heights.specs.Known.{Known, nothing, kept_value, grow, token_at}
use Rattle.ldp_heights.specs.Stages.{Stage, at_word, at_value, at_height, SoFar, header_left}
use Rattle.ldp_heights.specs.Stages.{known_count, with_known, with_height, taken_at, and_token}
use Rattle.ldp_heights.proofs.Tokenwise.{placed, step}

-- what is known of the token with these bytes
pub record Tells (known : Known) (bytes : List ℕ) : Type 0 where
  pub len : known.len ≡ length bytes
  pub first : known.first ≡ take 65 bytes
  pub digits : known.digits ≡ list_all is_ascii_digit bytes
  pub value : list_all is_ascii_digit bytes ≡ true → known.value ≡ kept_value (value bytes)

pub tells_nothing : Tells nothing []
tells_nothing = record { len = refl; first = refl; digits = refl; value = λ _. refl }

-- one more byte
one_digit : (n byte : ℕ) (bytes : List ℕ)
    → value_after n (bytes ++ byte ∷ []) ≡ value_after n bytes * 10 + (byte - 48)
one_digit n byte [] = refl
one_digit n byte (digit ∷ bytes) = one_digit (n * 10 + (digit - 48)) byte bytes

keeps_on : (n d : ℕ) → kept_value (kept_value n * 10 + d) ≡ kept_value (n * 10 + d)
keeps_on n d = omega arith

first_grown : (byte : ℕ) (bytes : List ℕ) (room : Bool) → nat_lt (length bytes) 65 ≡ room
    → (if room then take 65 bytes ++ byte ∷ [] else take 65 bytes) ≡ take 65 (bytes ++ byte ∷ [])
first_grown byte bytes true r =
    let few : length bytes < 65 = grind (arith, nat_tests) in
    let one : length (bytes ++ byte ∷ []) ≡ length bytes + 1 = length_push bytes byte in
    let all = take_all 65 bytes (omega (arith, few)) in
    let also = take_all 65 (bytes ++ byte ∷ []) (omega (arith, few, one)) in
    rw (all, also) refl
first_grown byte bytes false r =
    let many : 65 ≤ length bytes = grind (arith, nat_tests) in
    sym (take-append-le 65 bytes (byte ∷ []) many)

and_one : (p : Bool) → (p && true) ≡ p
and_one true = refl
and_one false = refl

both : (p q : Bool) → (p && q) ≡ true → (p ≡ true) × (q ≡ true)
both true true h = (refl, refl)
both true false h = absurd cc
both false q h = absurd cc

digits_grown : (byte : ℕ) (bytes : List ℕ)
    → list_all is_ascii_digit (bytes ++ byte ∷ [])
    ≡ (list_all is_ascii_digit bytes && is_ascii_digit byte)
digits_grown byte bytes =
    list_all-append is_ascii_digit bytes (byte ∷ [])
    ∙ ap (λ p. list_all is_ascii_digit bytes && p) (and_one (is_ascii_digit byte))

pub tells_more : (known : Known) (bytes : List ℕ) (byte : ℕ) → Tells known bytes
    → Tells (grow known byte) (bytes ++ byte ∷ [])
unfolding grow
tells_more known bytes byte tells = record {
  len = rw tells.len (sym (length_push bytes byte));
  first = rw (tells.first, tells.len)
      (first_grown byte bytes (nat_lt (length bytes) 65) refl);
  digits = rw tells.digits (sym (digits_grown byte bytes));
  value = λ all.
      let each = both (list_all is_ascii_digit bytes) (is_ascii_digit byte)
      (sym (digits_grown byte bytes) ∙ all) in
      rw (tells.digits, each.0, each.1, tells.value each.0, one_digit 0 byte bytes)
      (keeps_on (value bytes) (byte - 48));
}

-- the first 65 bytes say the same as all, where more than 64 bytes say one thing
letters_of : (n : ℕ) (bytes word : List ℕ) → length word < n
    → bytes_eq (str_to_ascii_lowercase (take n bytes)) word
    ≡ bytes_eq (str_to_ascii_lowercase bytes) word
letters_of zero bytes word h = absurd (omega arith)
letters_of (suc n) [] word h = refl
letters_of (suc n) (byte ∷ bytes) [] h = refl
letters_of (suc n) (byte ∷ bytes) (letter ∷ word) h =
    ap (λ same. nat_eq (to_ascii_lowercase byte) letter && same)
    (letters_of n bytes word (omega (arith, h)))

word_first : (bytes word : List ℕ) → length (str_to_ascii_lowercase word) < 65
    → str_eq_ignore_ascii_case (take 65 bytes) word ≡ str_eq_ignore_ascii_case bytes word
word_first bytes word h = letters_of 65 bytes (str_to_ascii_lowercase word) h

nan_first : (bytes : List ℕ) → is_nan (take 65 bytes) ≡ is_nan bytes
nan_first bytes = word_first bytes (codes "nan") (lit< tt)

number_first : (bytes : List ℕ) → begins_number (take 65 bytes) ≡ begins_number bytes
number_first [] = refl
number_first (byte ∷ bytes) = refl

height_first : (bytes : List ℕ) → begins_height (take 65 bytes) ≡ begins_height bytes
height_first bytes = rw (number_first bytes, nan_first bytes) refl

name_first : (bytes : List ℕ) → header_word (take 65 bytes) ≡ header_word bytes
unfolding header_word
name_first bytes =
    rw (
      word_first bytes (codes "ncols") (lit< tt),
      word_first bytes (codes "nrows") (lit< tt),
      word_first bytes (codes "xllcorner") (lit< tt),
      word_first bytes (codes "xllcenter") (lit< tt),
      word_first bytes (codes "yllcorner") (lit< tt),
      word_first bytes (codes "yllcenter") (lit< tt),
      word_first bytes (codes "cellsize") (lit< tt),
      word_first bytes (codes "nodata_value") (lit< tt),
    ) refl

parts_by : (bytes : List ℕ) (few : Bool) → nat_le (length bytes) 64 ≡ few
    → parts (take 65 bytes) ≡ parts bytes
unfolding parts
parts_by bytes true h =
    let few : length bytes ≤ 65 = grind (arith, nat_tests) in
    rw (take_all 65 bytes few) refl
parts_by bytes false h =
    let more : 65 ≤ length bytes = grind (arith, nat_tests) in
    let many : length (take 65 bytes) ≡ 65 = length-take 65 bytes ∙ omega (arith, more) in
    rw (h, many) refl

decimal_first : (places : ℕ) (bytes : List ℕ)
    → decimal_value places (take 65 bytes) ≡ decimal_value places bytes
unfolding decimal_value
decimal_first places bytes = rw (parts_by bytes (nat_le (length bytes) 64) refl) refl

class_first : (bytes : List ℕ) → class_of (take 65 bytes) ≡ class_of bytes
unfolding class_of decimal_of
class_first bytes = rw (nan_first bytes, decimal_first 3 bytes) refl

-- the token up to its 65th byte
abbrev short : Token → Token
short token = record { place = token.place; bytes = take 65 token.bytes }

degrees_first : (low high : ℤ) (token : Token)
    → degrees_of low high (short token) ≡ degrees_of low high token
unfolding degrees_of number_from_to
degrees_first low high token = rw (decimal_first 12 token.bytes) refl

-- counts
value_kept : (place n : ℕ) (fits : Bool) → nat_le n most_places ≡ fits
    → count_at place (kept_value n) ≡ count_at place n
value_kept place n true h =
    let under : n ≤ most_places = grind (arith, nat_tests) in
    let same : kept_value n ≡ n = omega (arith, under) in
    rw same refl
value_kept place n false h =
    let over : most_places < n = grind (arith, nat_tests) in
    let same : kept_value n ≡ most_places + 1 = omega (arith, over) in
    rw (same, h, and_none (nat_le 1 n)) refl where
      and_none : (p : Bool) → (p && false) ≡ false
      and_none true = refl
      and_none false = refl

count_by : (place : ℕ) (known : Known) (bytes : List ℕ) (digits : Bool) → Tells known bytes
    → list_all is_ascii_digit bytes ≡ digits
    → known_count place known ≡ count_of record { place = place; bytes = bytes }
unfolding count_of
count_by place known bytes true tells d =
    rw (tells.digits, d, tells.value d)
    (value_kept place (value bytes) (nat_le (value bytes) most_places) refl)
count_by place known bytes false tells d = rw (tells.digits, d) refl

count_known : (place : ℕ) (known : Known) (bytes : List ℕ) → Tells known bytes
    → known_count place known ≡ count_of record { place = place; bytes = bytes }
count_known place known bytes tells =
    count_by place known bytes (list_all is_ascii_digit bytes) tells refl

short_first : (place : ℕ) (known : Known) (bytes : List ℕ) → Tells known bytes
    → token_at place known ≡ short record { place = place; bytes = bytes }
short_first place known bytes tells = rw tells.first refl

value_known : (met : Header) (name : Name) (place : ℕ) (known : Known) (bytes : List ℕ)
    → Tells known bytes
    → with_known met name place known
    ≡ with_value met name record { place = place; bytes = bytes }
unfolding with_known with_value spacing_of
value_known met ncols place known bytes tells = rw (count_known place known bytes tells) refl
value_known met nrows place known bytes tells = rw (count_known place known bytes tells) refl
value_known met xllcorner place known bytes tells =
    rw (tells.first, degrees_first _ _ record { place = place; bytes = bytes }) refl
value_known met xllcenter place known bytes tells =
    rw (tells.first, degrees_first _ _ record { place = place; bytes = bytes }) refl
value_known met yllcorner place known bytes tells =
    rw (tells.first, degrees_first _ _ record { place = place; bytes = bytes }) refl
value_known met yllcenter place known bytes tells =
    rw (tells.first, degrees_first _ _ record { place = place; bytes = bytes }) refl
value_known met cellsize place known bytes tells =
    rw (tells.first, degrees_first _ _ record { place = place; bytes = bytes }) refl
value_known met nodata_value place known bytes tells = rw (tells.first, class_first bytes) refl

left_first : (token : Token) (stage : Stage)
    → header_left (short token) stage ≡ header_left token stage
unfolding header_left
left_first token (at_word met) = rw (height_first token.bytes) refl
left_first token (at_value met word) = refl
left_first token (at_height layout heights) = refl

taken_first : (place : ℕ) (known : Known) (bytes : List ℕ) (stage : Stage) → Tells known bytes
    → taken_at place known stage ≡ placed record { place = place; bytes = bytes } stage
unfolding taken_at placed word_at with_height height_of
taken_first place known bytes (at_word met) tells = rw (tells.first, name_first bytes) refl
taken_first place known bytes (at_value met word) tells =
    rw (value_known met word place known bytes tells) refl
taken_first place known bytes (at_height layout heights) tells =
    rw (tells.first, class_first bytes) refl

same_after : (sofar : SoFar) (f g : Stage → SoFar) → ((stage : Stage) → f stage ≡ g stage)
    → (sofar >>= f) ≡ (sofar >>= g)
same_after (Ok stage) f g h = h stage
same_after (Err fault) f g h = refl

-- a token of which all that counts is known is read as the whole one
pub known_read : (sofar : SoFar) (place : ℕ) (known : Known) (bytes : List ℕ) → Tells known bytes
    → and_token sofar place known ≡ (sofar >>= step record { place = place; bytes = bytes })
unfolding step
known_read (Err fault) place known bytes tells = refl
known_read (Ok stage) place known bytes tells =
    let token : Token = record { place = place; bytes = bytes } in
    rw (short_first place known bytes tells, left_first token stage)
    (same_after (header_left token stage) (taken_at place known) (placed token)
    (λ next. taken_first place known bytes next tells))
