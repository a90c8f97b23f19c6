-- Lines of words, as they are written.
use Rattle.std.specs.Prelude.{ℕ, List, [], ◌∷◌, ◌++◌}
use Rattle.std.specs.List.{flat_map}
use Rattle.ldp_spelling.specs.Pieces.{line_of}

-- a line as the list of its words, each a list of bytes
abbrev pub Words : Type 0
Words = List (List ℕ)

-- a line with its line feed
abbrev pub line_text : Words → List ℕ
line_text words = line_of words ++ 10 ∷ []

-- some lines, each with its line feed
abbrev pub lines_text : List Words → List ℕ
lines_text lines = flat_map line_text lines
