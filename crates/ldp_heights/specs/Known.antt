-- What is known of a token whose end was not met yet. It is enough to read the token: a number has
-- at most 64 bytes, each word of the header has fewer, and a count above the most places is out of
-- range.
use Rattle.std.specs.Prelude.{ℕ, ◌+◌, ◌-◌, ◌*◌, min, nat_lt, Bool, true, ◌&&◌, List, [], ◌∷◌, ◌++◌}
use Rattle.std.specs.Prelude.{if◌then◌else◌}
use Rattle.std.specs.Char.{is_ascii_digit}
use Rattle.ldp_tokens.specs.Tokens.{Token}
use Rattle.ldp_heights.specs.Grid.{most_places}

-- its length, its first 65 bytes, whether all its bytes are digits, and the value of its digits so
-- far
pub record Known : Type 0 where
  pub len : ℕ
  pub first : List ℕ
  pub digits : Bool
  pub value : ℕ

-- no byte was met
abbrev pub nothing : Known
nothing = record {
  len = 0;
  first = [];
  digits = true;
  value = 0;
}

-- a value that is too great is kept one above the most places
abbrev pub kept_value : ℕ → ℕ
kept_value n = min n (most_places + 1)

-- the first 65 bytes, with one more behind so many bytes
abbrev pub kept_first : List ℕ → ℕ → ℕ → List ℕ
kept_first first len byte = if nat_lt len 65 then first ++ byte ∷ [] else first

-- with one more byte; the value stays as it is once a byte is no digit
unfoldable pub grow : Known → ℕ → Known
grow known byte = record {
  len = known.len + 1;
  first = kept_first known.first known.len byte;
  digits = known.digits && is_ascii_digit byte;
  value = if known.digits && is_ascii_digit byte then kept_value (known.value * 10 + (byte - 48))
      else known.value;
}

-- the token of which this is known, up to its 65th byte
abbrev pub token_at : ℕ → Known → Token
token_at place known = record { place = place; bytes = known.first }
