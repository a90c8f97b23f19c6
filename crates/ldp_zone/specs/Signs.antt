-- The signs, words and runs of a zone's text. The signs are the delimiters of the text form of OGC
-- 06-103r4.
use Rattle.std.specs.Prelude.{ℕ, Bool, not, ◌||◌, List, codes}
use Rattle.std.specs.Str.{str_eq_ignore_ascii_case}
use Rattle.ldp_tokens.specs.Tokens.{Token}

-- both brackets and the comma
abbrev pub signs : List ℕ
signs = codes "(),"

-- a token is this text, in any case
abbrev pub is_word : Token → List ℕ → Bool
is_word token word = str_eq_ignore_ascii_case token.bytes word

-- a `(`, in front of the text of a geometry, of a polygon or of a ring
unfoldable pub is_open : Token → Bool
is_open token = is_word token (codes "(")

-- a `)`, behind the text of a ring, of a polygon or of a geometry
unfoldable pub is_close : Token → Bool
is_close token = is_word token (codes ")")

-- a comma, which stands between points, rings or polygons
unfoldable pub is_comma : Token → Bool
is_comma token = is_word token (codes ",")

-- a token that is no sign: a word or a number
unfoldable pub is_run : Token → Bool
is_run token = not (is_open token || is_close token || is_comma token)
