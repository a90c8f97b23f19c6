-- What the definitions see of a token that the code holds.
use Rattle.ldp_tokens.specs.Tokens.{Token}
use Rattle.ldp_tokens.specs.declared.tokens.Token.{Token as HeldToken}

-- the place of its first byte, and its bytes
abbrev pub seen : HeldToken → Token
seen token = record { place = token.place; bytes = token.bytes.now }
