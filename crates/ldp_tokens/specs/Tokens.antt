-- The tokens of a text: the longest runs of bytes that are no white space and no sign, and each
-- sign alone, each with the place of its first byte. Which bytes are signs is an argument; a byte
-- of white space is no sign.
use Rattle.std.specs.Prelude.{ℕ, ◌+◌, Bool, true, false, ◌||◌, ◌==◌, List, [], ◌∷◌, filter}
use Rattle.std.specs.Prelude.{if◌then◌else◌}
use Rattle.std.specs.List.{list_any, position_or_len}
use Rattle.ldp_tokens.specs.Mark.{mark_len, without_mark}

-- a run of bytes, or a sign, that begins at a place of the text, counted from 0
pub record Token : Type 0 where
  pub place : ℕ
  pub bytes : List ℕ

-- space, tab, line feed and carriage return
abbrev pub is_white : ℕ → Bool
is_white byte = byte == 32 || byte == 9 || byte == 10 || byte == 13

-- the byte is among the signs
abbrev pub is_sign : List ℕ → ℕ → Bool
is_sign signs byte = list_any (λ sign. sign == byte) signs

-- the first piece, begun one byte earlier
abbrev pub onto_first : ℕ → ℕ → List Token → List Token
onto_first place byte [] = record { place = place; bytes = byte ∷ [] } ∷ []
onto_first place byte (piece ∷ pieces) =
    record { place = place; bytes = byte ∷ piece.bytes } ∷ pieces

-- the signs, and the pieces between them and the bytes of white space, also the empty ones; the
-- text begins at this place
abbrev pub pieces : List ℕ → ℕ → List ℕ → List Token
pieces signs place [] = record { place = place; bytes = [] } ∷ []
pieces signs place (byte ∷ bytes) =
    if is_white byte then record { place = place; bytes = [] } ∷ pieces signs (place + 1) bytes
    else if is_sign signs byte
    then record { place = place; bytes = [] } ∷ record { place = place; bytes = byte ∷ [] }
    ∷ pieces signs (place + 1) bytes
    else onto_first place byte (pieces signs (place + 1) bytes)

-- whether a run has a byte at all
abbrev pub is_some_run : List ℕ → Bool
is_some_run [] = false
is_some_run (byte ∷ bytes) = true

-- the tokens of a text that begins at this place
abbrev pub tokens : List ℕ → ℕ → List ℕ → List Token
tokens signs place text = filter (λ piece. is_some_run piece.bytes) (pieces signs place text)

-- the tokens of a whole text: a mark in front is skipped, and its bytes are counted
abbrev pub tokens_of : List ℕ → List ℕ → List Token
tokens_of signs text = tokens signs (mark_len text) (without_mark text)

-- a byte that is in no run: white space, or a sign
abbrev pub ends_run : List ℕ → ℕ → Bool
ends_run signs byte = is_white byte || is_sign signs byte

-- the length of the token that a text begins with
abbrev pub token_len : List ℕ → List ℕ → ℕ
token_len signs [] = 0
token_len signs (byte ∷ bytes) =
    if is_sign signs byte then 1 else position_or_len (ends_run signs) (byte ∷ bytes)
