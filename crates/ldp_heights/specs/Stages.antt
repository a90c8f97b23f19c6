-- Reading token by token: what was read so far, and what a whole token and the end of the text make
-- of it.
use Rattle.std.specs.Prelude.{ℕ, ◌*◌, ◌==◌, Bool, true, false, ℤ, List, [], ◌∷◌, ◌++◌, length}
use Rattle.std.specs.Prelude.{Option, Some, Result, Ok, Err, if◌then◌else◌}
use Rattle.ldp_quantity.specs.Results.{◌>>=◌}
use Rattle.ldp_tokens.specs.Tokens.{Token}
use Rattle.ldp_heights.specs.Grid.{HeightGrid}
use Rattle.ldp_heights.specs.Header.{Header, Name, ncols, nrows, Layout, no_words, begins_height}
use Rattle.ldp_heights.specs.Header.{word_at, with_value, count_at, layout_of}
use Rattle.ldp_heights.specs.Reading.{height_of, grid_with}
use Rattle.ldp_heights.specs.Known.{Known, token_at}
use Rattle.ldp_heights.specs.declared.fault.HeightFault.{HeightFault}
use Rattle.ldp_heights.specs.declared.fault.HeightFault.TheVariants.{BadNumber, TooFew, Trailing}

-- what comes next: a word of the header after those met, the value of a word, or a height after a
-- whole header and the heights so far
pub data Stage : Type 0 where
  at_word : Header → Stage
  at_value : Header → Name → Stage
  at_height : Layout → List (Option ℤ) → Stage

-- what was read so far, or the first fault
abbrev pub SoFar : Type 0
SoFar = Result Stage HeightFault

-- before the first token
abbrev pub at_start : SoFar
at_start = Ok (at_word no_words)

-- the header has ended, or a fault was met
abbrev pub is_started : SoFar → Bool
is_started (Ok (at_word met)) = false
is_started (Ok (at_value met word)) = false
is_started (Ok (at_height layout heights)) = true
is_started (Err fault) = true

-- a token that begins a height ends the header
unfoldable pub header_left : Token → Stage → SoFar
header_left token (at_word met) =
    if begins_height token.bytes then (layout_of met >>= λ layout. Ok (at_height layout []))
    else Ok (at_word met)
header_left token (at_value met word) = Ok (at_value met word)
header_left token (at_height layout heights) = Ok (at_height layout heights)

-- a count of rows or columns, of which this is known
abbrev pub known_count : ℕ → Known → Result ℕ HeightFault
known_count place known =
    if known.digits then count_at place known.value else Err (BadNumber place)

-- the words met, with this word's value
unfoldable pub with_known : Header → Name → ℕ → Known → Result Header HeightFault
with_known met ncols place known =
    known_count place known >>= λ n. Ok record met { ncols = Some n }
with_known met nrows place known =
    known_count place known >>= λ n. Ok record met { nrows = Some n }
with_known met word place known = with_value met word (token_at place known)

-- one more height
unfoldable pub with_height : Layout → List (Option ℤ) → Token → SoFar
with_height layout heights token =
    if length heights == layout.cols * layout.rows then Err (Trailing token.place)
    else (height_of layout.missing token
    >>= λ height. Ok (at_height layout (heights ++ height ∷ [])))

-- a token, of which this is known, taken in its place
unfoldable pub taken_at : ℕ → Known → Stage → SoFar
taken_at place known (at_word met) =
    word_at met (token_at place known) >>= λ word. Ok (at_value met word)
taken_at place known (at_value met word) =
    with_known met word place known >>= λ more. Ok (at_word more)
taken_at place known (at_height layout heights) =
    with_height layout heights (token_at place known)

-- the header ended after what was read, where this token begins a height
abbrev pub and_header_left : SoFar → Token → SoFar
and_header_left sofar token = sofar >>= header_left token

-- a token taken in its place after what was read
abbrev pub and_taken : SoFar → ℕ → Known → SoFar
and_taken sofar place known = sofar >>= taken_at place known

-- a whole token taken after what was read
abbrev pub and_token : SoFar → ℕ → Known → SoFar
and_token sofar place known = and_taken (and_header_left sofar (token_at place known)) place known

-- the heights of all places, and no fewer
abbrev pub whole : Layout → List (Option ℤ) → Result HeightGrid HeightFault
whole layout heights =
    if length heights == layout.cols * layout.rows then Ok (grid_with layout heights)
    else Err (TooFew (length heights))

-- the answer where the text ends after so many bytes
unfoldable pub ended : ℕ → Stage → Result HeightGrid HeightFault
ended end (at_word met) = layout_of met >>= λ layout. whole layout []
ended end (at_value met word) = Err (BadNumber end)
ended end (at_height layout heights) = whole layout heights

-- the answer where the text ends after what was read
abbrev pub and_end : SoFar → ℕ → Result HeightGrid HeightFault
and_end sofar end = sofar >>= ended end
