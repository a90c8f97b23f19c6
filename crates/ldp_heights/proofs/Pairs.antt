-- One pair of a header after another.
use Rattle.std.proofs.Common.{◌≡◌, ℕ, false, List, ◌∷◌, Ok}
use Rattle.std.proofs.Common.{refl}
use Rattle.ldp_tokens.specs.Tokens.{Token}
use Rattle.ldp_heights.specs.Header.{Header, Name, begins_height, word_at, with_value}
use Rattle.ldp_heights.specs.Header.{header_of}

pub pair_read : (end : ℕ) (met more : Header) (word given : Token) (rest : List Token) (name : Name)
    → begins_height word.bytes ≡ false → word_at met word ≡ Ok name
    → with_value met name given ≡ Ok more
    → header_of end met (word ∷ given ∷ rest) ≡ header_of end more rest
unfolding header_of
pair_read end met more word given rest name begins named valued = rw (begins, named, valued) refl
