-- A SHA-256 hash (FIPS 180-4) as a word of 64 hexadecimal digits, with letters in lower case alone.
use Rattle.std.specs.Prelude.{◌≡◌, ℕ, List, length, Option, Some, None, Result, Ok, Err, bytes_eq}
use Rattle.std.specs.Prelude.{if◌then◌else◌}
use Rattle.hex.specs.declared.error.FromHexError.{FromHexError}
use Rattle.hex.specs.Hex.{encode_lower, decode_sized, IsBytes}

-- the hash that was decoded from a text; None if the text has capital letters or was not decoded
abbrev pub hash_as : List ℕ → Result (List ℕ) FromHexError → Option (List ℕ)
hash_as text (Err fault) = None
hash_as text (Ok hash) = if bytes_eq (encode_lower hash) text then Some hash else None

-- the 32 bytes whose digits these are
unfoldable pub hash_in : List ℕ → Option (List ℕ)
hash_in text = hash_as text (decode_sized text 32)

-- the 32 bytes of a hash
pub record IsHash (hash : List ℕ) : Type 0 where
  pub size : length hash ≡ 32
  pub bytes : IsBytes hash
