-- A whole header, its words in any order, and then the heights.
use Rattle.std.proofs.Common.{◌≡◌, ℕ, ◌+◌, ◌*◌, ◌≤◌, ◌==◌, ◌||◌, nat_lt, Bool, true}
use Rattle.std.proofs.Common.{false, ℤ, List, [], ◌∷◌, ◌++◌, length, Option, Some, None, Ok}
use Rattle.std.proofs.Common.{refl, ◌∙◌, arith, if◌then◌else◌}
use Rattle.std.proofs.lemmas.Bool.Decides.{nat_tests}
use Rattle.std.specs.Prelude.{is_some, unwrap_or}
use Rattle.std.specs.Char.{is_ascii_digit, to_ascii_lowercase}
use Rattle.std.specs.Str.{str_to_ascii_lowercase}
use Rattle.ldp_decimal.specs.Grammar.{AreDigits, Parts, parts}
use Rattle.ldp_decimal.specs.Spelling.{Spelled, Sign, unsigned, plus, minus}
use Rattle.ldp_decimal.specs.Spelling.{sign_text, point_text, exponent_text}
use Rattle.ldp_decimal.specs.Reading.{decimal_of, decimal_value}
use Rattle.ldp_tokens.specs.Tokens.{Token}
use Rattle.ldp_heights.specs.Classes.{Class, is_nan, class_of}
use Rattle.ldp_heights.specs.Header.{Name, ncols, nrows, xllcorner, xllcenter, yllcorner, yllcenter}
use Rattle.ldp_heights.specs.Header.{cellsize, nodata_value, Header, Layout, headed}
use Rattle.ldp_heights.specs.Header.{begins_number, begins_height, header_word, is_met, word_at}
use Rattle.ldp_heights.specs.Header.{with_value, header_of, layout_of}
use Rattle.ldp_heights.specs.Reading.{height_of, heights_from, grid_of, heights_of}
use Rattle.ldp_heights.specs.Reading.{grid_with}
use Rattle.ldp_heights.specs.Whole.{Pair, pair_tokens, small_letters, word_of, Gives}
use Rattle.ldp_heights.specs.Whole.{is_among, is_given, ArePairsOf, AreHeights, IsGridText}
use Rattle.ldp_heights.specs.declared.fault.Word.{Word}
use Rattle.ldp_heights.specs.declared.fault.Word.TheVariants.{Ncols, Nrows, X, Y, Cellsize, Nodata}
use Rattle.ldp_heights.proofs.Pairs.{pair_read}

-- a value of the header, where its word was met
abbrev if_met : {A : Type 0} → Bool → Option A → Option A
if_met met value = if met then value else None

-- the header, of the words met alone
abbrev of_words : Header → List Word → Header
of_words header words = record {
  ncols = if_met (is_among Ncols words) header.ncols;
  nrows = if_met (is_among Nrows words) header.nrows;
  x = if_met (is_among X words) header.x;
  y = if_met (is_among Y words) header.y;
  cellsize = if_met (is_among Cellsize words) header.cellsize;
  nodata = if_met (is_among Nodata words) header.nodata;
}

kept : {A : Type 0} (met : Bool) (value : Option A) → (is_some value ≡ true → met ≡ true)
    → if_met met value ≡ value
kept true value h = refl
kept false None h = refl
kept false (Some a) h = absurd (let no : false ≡ true = h refl in cc)

-- once all words were met, that is the header
all_met : (header : Header) (words : List Word)
    → ((word : Word) → is_given header word ≡ true → is_among word words ≡ true)
    → of_words header words ≡ header
all_met header words full =
    let a = kept (is_among Ncols words) header.ncols (full Ncols) in
    let b = kept (is_among Nrows words) header.nrows (full Nrows) in
    let c = kept (is_among X words) header.x (full X) in
    let d = kept (is_among Y words) header.y (full Y) in
    let e = kept (is_among Cellsize words) header.cellsize (full Cellsize) in
    let f = kept (is_among Nodata words) header.nodata (full Nodata) in
    λ i. record { ncols = a i; nrows = b i; x = c i; y = d i; cellsize = e i; nodata = f i }

word_found : (name : Name) (bytes : List ℕ) → str_to_ascii_lowercase bytes ≡ small_letters name
    → header_word bytes ≡ Some name
unfolding header_word
word_found ncols bytes h = rw h refl
word_found nrows bytes h = rw h refl
word_found xllcorner bytes h = rw h refl
word_found xllcenter bytes h = rw h refl
word_found yllcorner bytes h = rw h refl
word_found yllcenter bytes h = rw h refl
word_found cellsize bytes h = rw h refl
word_found nodata_value bytes h = rw h refl

not_met : (header : Header) (words : List Word) (name : Name)
    → is_among (word_of name) words ≡ false
    → is_met (of_words header words) name ≡ false
not_met header words ncols h = rw h refl
not_met header words nrows h = rw h refl
not_met header words xllcorner h = rw h refl
not_met header words xllcenter h = rw h refl
not_met header words yllcorner h = rw h refl
not_met header words yllcenter h = rw h refl
not_met header words cellsize h = rw h refl
not_met header words nodata_value h = rw h refl

word_read : (header : Header) (words : List Word) (name : Name) (word : Token)
    → str_to_ascii_lowercase word.bytes ≡ small_letters name → is_among (word_of name) words ≡ false
    → word_at (of_words header words) word ≡ Ok name
unfolding word_at
word_read header words name word h new =
    rw (word_found name word.bytes h, not_met header words name new) refl

value_read : (header : Header) (words : List Word) (name : Name) (value : Token)
    → Gives name value header
    → with_value (of_words header words) name value ≡ Ok (of_words header (word_of name ∷ words))
unfolding with_value
value_read header words ncols value (n, read, has) = rw (read, has) refl
value_read header words nrows value (n, read, has) = rw (read, has) refl
value_read header words xllcorner value (x, read, has) = rw (read, has) refl
value_read header words xllcenter value (x, read, has) = rw (read, has) refl
value_read header words yllcorner value (y, read, has) = rw (read, has) refl
value_read header words yllcenter value (y, read, has) = rw (read, has) refl
value_read header words cellsize value (n, read, has) = rw (read, has) refl
value_read header words nodata_value value (class, read, has) = rw (read, has) refl

-- a letter in small letters comes from a letter
letter : (byte : ℕ) → 97 ≤ to_ascii_lowercase byte → 65 ≤ byte
letter byte h = letter_by (nat_lt byte 65) refl h where
  letter_by : (low : Bool) → nat_lt byte 65 ≡ low
      → 97 ≤ (if low then byte else if nat_lt byte 91 then byte + 32 else byte) → 65 ≤ byte
  letter_by true e g = omega arith
  letter_by false e g = grind (arith, nat_tests)

no_number : (byte : ℕ) (bytes : List ℕ) → 65 ≤ byte → begins_number (byte ∷ bytes) ≡ false
no_number byte bytes h = grind (arith, nat_tests)

word_begins : (first : ℕ) (rest bytes : List ℕ) → 97 ≤ first
    → str_to_ascii_lowercase bytes ≡ first ∷ rest
    → begins_number bytes ≡ false
word_begins first rest [] h e = absurd cc
word_begins first rest (byte ∷ bytes) h e =
    let same : to_ascii_lowercase byte ≡ first = cc in
    no_number byte bytes (letter byte (rw same h))

-- a word of a header begins no height
no_height : (name : Name) (bytes : List ℕ) → str_to_ascii_lowercase bytes ≡ small_letters name
    → begins_height bytes ≡ false
no_height name bytes h = rw (letters name h, no_nan name h) refl where
  letters : (name : Name) → str_to_ascii_lowercase bytes ≡ small_letters name
      → begins_number bytes ≡ false
  letters ncols h = word_begins _ _ bytes (omega arith) h
  letters nrows h = word_begins _ _ bytes (omega arith) h
  letters xllcorner h = word_begins _ _ bytes (omega arith) h
  letters xllcenter h = word_begins _ _ bytes (omega arith) h
  letters yllcorner h = word_begins _ _ bytes (omega arith) h
  letters yllcenter h = word_begins _ _ bytes (omega arith) h
  letters cellsize h = word_begins _ _ bytes (omega arith) h
  letters nodata_value h = word_begins _ _ bytes (omega arith) h

  no_nan : (name : Name) → str_to_ascii_lowercase bytes ≡ small_letters name → is_nan bytes ≡ false
  no_nan ncols h = rw h refl
  no_nan nrows h = rw h refl
  no_nan xllcorner h = rw h refl
  no_nan xllcenter h = rw h refl
  no_nan yllcorner h = rw h refl
  no_nan yllcenter h = rw h refl
  no_nan cellsize h = rw h refl
  no_nan nodata_value h = rw h refl

-- the first token begins a height, if there is one
abbrev Begins : List Token → Type 0
Begins [] = Unit {0}
Begins (token ∷ tokens) = begins_height token.bytes ≡ true

header_over : (end : ℕ) (header : Header) (tokens : List Token) → Begins tokens
    → header_of end header tokens ≡ Ok (headed header tokens)
unfolding header_of
header_over end header [] b = refl
header_over end header (token ∷ []) b = rw b refl
header_over end header (token ∷ next ∷ rest) b = rw b refl

-- the pairs that are left, and then the heights
header_read : (end : ℕ) (header : Header) (words : List Word) (pairs : List Pair)
    (tokens : List Token) → ArePairsOf header words pairs → Begins tokens
    → header_of end (of_words header words) (pair_tokens pairs ++ tokens)
    ≡ Ok (headed header tokens)
header_read end header words [] tokens are begins =
    rw (all_met header words are) (header_over end header tokens begins)
header_read end header words (pair ∷ pairs) tokens are begins =
    let met = of_words header words in
    let more = of_words header (word_of pair.name ∷ words) in
    pair_read end met more pair.word pair.value (pair_tokens pairs ++ tokens) pair.name
    (no_height pair.name pair.word.bytes are.0.word)
    (word_read header words pair.name pair.word are.0.word are.1)
    (value_read header words pair.name pair.value are.0.value)
    ∙ header_read end header (word_of pair.name ∷ words) pairs tokens are.2 begins

-- a text with parts is spelled, so it begins with a sign, a digit or a point
abbrev AreSpelled : Type 0
AreSpelled = (text : List ℕ) (p : Parts) → parts text ≡ Some p → Spelled text p

a_digit : (digit : ℕ) (rest : List ℕ) → 48 ≤ digit → digit ≤ 57
    → begins_number (digit ∷ rest) ≡ true
a_digit digit rest low high =
    let yes : is_ascii_digit digit ≡ true = grind (arith, nat_tests) in rw yes refl

spelling_begins : (sign : Sign) (whole : List ℕ) (further : Option (List ℕ)) (after : List ℕ)
    → AreDigits whole
    → 1 ≤ length whole + length (unwrap_or further [])
    → begins_number (sign_text sign ++ (whole ++ (point_text further ++ after))) ≡ true
spelling_begins plus whole further after digits some = refl
spelling_begins minus whole further after digits some = refl
spelling_begins unsigned [] None after digits some = absurd (omega arith)
spelling_begins unsigned [] (Some ds) after digits some = refl
spelling_begins unsigned (digit ∷ rest) further after digits some =
    a_digit digit (rest ++ (point_text further ++ after)) digits.0.0 digits.0.1

number_begins : AreSpelled → (text : List ℕ) (p : Parts) → parts text ≡ Some p
    → begins_number text ≡ true
number_begins spelled text p h =
    let told = spelled text p h in
    let s = told.spelling in
    rw (← told.same)
    (spelling_begins s.sign s.whole s.further (exponent_text s.exponent)
    told.is.whole told.is.some)

no_class : (bytes : List ℕ) → is_nan bytes ≡ false → parts bytes ≡ None → class_of bytes ≡ None
unfolding class_of decimal_of decimal_value
no_class bytes n h = rw (n, h) refl

no_height_read : (missing : Class) (token : Token) (height : Option ℤ) → class_of token.bytes ≡ None
    → height_of missing token ≡ Ok height → begins_height token.bytes ≡ true
unfolding height_of
no_height_read missing token height h read =
    let fault = rw h at read in absurd cc

height_begins_by : AreSpelled
    → (missing : Class) (token : Token) (height : Option ℤ) (found : Option Parts)
    → is_nan token.bytes ≡ false → parts token.bytes ≡ found → height_of missing token ≡ Ok height
    → begins_height token.bytes ≡ true
height_begins_by spelled missing token height None n h read =
    no_height_read missing token height (no_class token.bytes n h) read
height_begins_by spelled missing token height (Some p) n h read =
    rw (number_begins spelled token.bytes p h) refl

or_true : (b : Bool) → (b || true) ≡ true
or_true true = refl
or_true false = refl

-- what is read to a height begins one
height_begins : AreSpelled → (missing : Class) (token : Token) (height : Option ℤ)
    → height_of missing token ≡ Ok height
    → begins_height token.bytes ≡ true
height_begins spelled missing token height read = by_nan (is_nan token.bytes) refl where
  by_nan : (nan : Bool) → is_nan token.bytes ≡ nan → begins_height token.bytes ≡ true
  by_nan true e = rw e (or_true (begins_number token.bytes))
  by_nan false e = height_begins_by spelled missing token height (parts token.bytes) e refl read

heights_begin : AreSpelled → (missing : Class) (tokens : List Token) (heights : List (Option ℤ))
    → AreHeights missing tokens heights → Begins tokens
heights_begin spelled missing [] heights are = tt
heights_begin spelled missing (token ∷ tokens) [] are = absurd are
heights_begin spelled missing (token ∷ tokens) (height ∷ heights) are =
    height_begins spelled missing token height are.0

-- the heights after so many
heights_read : (missing : Class) (places found : ℕ) (tokens : List Token)
    (heights : List (Option ℤ)) → AreHeights missing tokens heights
    → length heights + found ≡ places
    → heights_from missing places found tokens ≡ Ok heights
heights_read missing places found [] heights are each =
    let none : length heights ≡ 0 = rw are refl in
    let whole : (found == places) ≡ true = grind (arith, nat_tests) in
    rw (whole, are) refl
heights_read missing places found (token ∷ tokens) [] are each = absurd are
heights_read missing places found (token ∷ tokens) (height ∷ heights) are each =
    let before : (found == places) ≡ false = grind (arith, nat_tests) in
    let others =
    heights_read missing places (found + 1) tokens heights are.1 (omega (arith, each)) in
    rw (before, are.0, others) refl

tokens_read : AreSpelled
    → (end : ℕ) (header : Header) (pairs : List Pair) (tokens : List Token) (layout : Layout)
    (heights : List (Option ℤ)) → ArePairsOf header [] pairs → layout_of header ≡ Ok layout
    → AreHeights layout.missing tokens heights → length heights ≡ layout.cols * layout.rows
    → grid_of end (pair_tokens pairs ++ tokens) ≡ Ok (grid_with layout heights)
unfolding grid_of
tokens_read spelled end header pairs tokens layout heights are laid read each =
    let begins = heights_begin spelled layout.missing tokens heights read in
    let all : length heights + 0 ≡ layout.cols * layout.rows = omega (arith, each) in
    let placed =
    heights_read layout.missing (layout.cols * layout.rows) 0 tokens heights read all in
    rw (header_read end header [] pairs tokens are begins, laid, placed) refl

-- a text of a whole header and then the heights is read to that grid
pub text_read : AreSpelled → (text : List ℕ) (layout : Layout) (heights : List (Option ℤ))
    → IsGridText text layout heights → heights_of text ≡ Ok (grid_with layout heights)
unfolding heights_of
text_read spelled text layout heights is =
    rw is.text_is
    (tokens_read spelled (length text) is.header is.pairs is.tokens layout heights
    is.pairs_are is.layout_is is.heights_are is.each_place)
