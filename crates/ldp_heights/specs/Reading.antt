-- Reading the text of an Esri ASCII grid: the header, then the heights row by row from the north,
-- each row from west to east. The first fault, from left to right, is answered with its place. The
-- profile is this project's own choice.
use Rattle.std.specs.Prelude.{ℕ, ◌+◌, ◌*◌, ◌==◌, ℤ, List, [], ◌∷◌, length, Option, Some, None}
use Rattle.std.specs.Prelude.{Result, Ok, Err, if◌then◌else◌}
use Rattle.ldp_quantity.specs.Results.{◌>>=◌}
use Rattle.ldp_tokens.specs.Tokens.{Token, tokens_of}
use Rattle.ldp_heights.specs.Classes.{Class, nan, millimetres, too_high, too_low, class_of}
use Rattle.ldp_heights.specs.Classes.{same_class}
use Rattle.ldp_heights.specs.Header.{Layout, class_or_fault, header_of, no_words, layout_of}
use Rattle.ldp_heights.specs.Grid.{HeightGrid}
use Rattle.ldp_heights.specs.declared.fault.HeightFault.{HeightFault}
use Rattle.ldp_heights.specs.declared.fault.HeightFault.TheVariants.{BadNumber, OutOfRange}
use Rattle.ldp_heights.specs.declared.fault.HeightFault.TheVariants.{TooFew, Trailing}

-- the number of millimetres of a class that is not the missing one
abbrev pub number_of : ℕ → Class → Result (Option ℤ) HeightFault
number_of place (millimetres n) = Ok (Some n)
number_of place nan = Err (BadNumber place)
number_of place too_high = Err (OutOfRange place)
number_of place too_low = Err (OutOfRange place)

-- a height, or a gap where its class is the missing one
unfoldable pub height_of : Class → Token → Result (Option ℤ) HeightFault
height_of missing token = class_or_fault token.place (class_of token.bytes)
    >>= λ class. if same_class class missing then Ok None else number_of token.place class

-- the heights of all places but the first `found`, with no token after the last
abbrev pub heights_from : Class → ℕ → ℕ → List Token → Result (List (Option ℤ)) HeightFault
heights_from missing places found [] = if found == places then Ok [] else Err (TooFew found)
heights_from missing places found (token ∷ rest) =
    if found == places then Err (Trailing token.place)
    else (height_of missing token
    >>= λ first. heights_from missing places (found + 1) rest
    >>= λ others. Ok (first ∷ others))

-- the heights of a grid with this layout
abbrev pub heights_under : Layout → List Token → Result (List (Option ℤ)) HeightFault
heights_under layout tokens = heights_from layout.missing (layout.cols * layout.rows) 0 tokens

-- the grid that a layout and the heights of its places make
abbrev pub grid_with : Layout → List (Option ℤ) → HeightGrid
grid_with layout heights = record {
  rows = layout.rows;
  cols = layout.cols;
  x = layout.x;
  y = layout.y;
  spacing = layout.spacing;
  heights = heights;
}

-- the grid that a list of tokens is; the text has so many bytes
unfoldable pub grid_of : ℕ → List Token → Result HeightGrid HeightFault
grid_of end tokens = do
  headed ← header_of end no_words tokens
  layout ← layout_of headed.header
  heights ← heights_under layout headed.heights
  Ok (grid_with layout heights)

-- the grid of a text, in which no byte is a sign, or its first fault
unfoldable pub heights_of : List ℕ → Result HeightGrid HeightFault
heights_of text = grid_of (length text) (tokens_of [] text)
