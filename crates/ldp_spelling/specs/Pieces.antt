-- A text is its lines, each with a line feed behind it, and a line is its words with a space
-- between two of them (own choice of this project).
use Rattle.std.specs.Prelude.{ℕ, ◌++◌, ◌==◌, nat_lt, Bool, true, false, List, [], ◌∷◌, Option}
use Rattle.std.specs.Prelude.{Some, None}
use Rattle.std.specs.List.{slice_split, list_all, flat_map, join_with_byte}

-- the pieces between the separators, also the empty ones
abbrev pub pieces : ℕ → List ℕ → List (List ℕ)
pieces at text = slice_split (λ byte. byte == at) text

-- the pieces between line feeds: the last one is what stands behind the last line feed
abbrev pub lines : List ℕ → List (List ℕ)
lines text = pieces 10 text

-- the pieces between spaces
abbrev pub words : List ℕ → List (List ℕ)
words line = pieces 32 line

-- the words that are left of a line, where some are
abbrev pub words_left : Bool → List ℕ → List (List ℕ)
words_left true line = words line
words_left false line = []

-- the first line and what follows it, where its line feed is there
abbrev pub ended : List (List ℕ) → Option (List ℕ × List (List ℕ))
ended [] = None
ended (line ∷ []) = None
ended (line ∷ next ∷ more) = Some (line, next ∷ more)

-- the line of some words, with one space between two of them
abbrev pub line_of : List (List ℕ) → List ℕ
line_of words = join_with_byte 32 words

-- the text of some lines, with a line feed behind each
abbrev pub text_of : List (List ℕ) → List ℕ
text_of lines = flat_map (λ line. line ++ 10 ∷ []) lines

-- every byte is above 32: no space, and no ASCII control character but DEL
abbrev pub is_plain : List ℕ → Bool
is_plain word = list_all (λ byte. nat_lt 32 byte) word

-- every byte is above 10, so none is a line feed
abbrev pub is_line : List ℕ → Bool
is_line line = list_all (λ byte. nat_lt 10 byte) line
