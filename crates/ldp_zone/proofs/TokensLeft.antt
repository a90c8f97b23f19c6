-- What the reader's steps make of the tokens that are left.
use Rattle.std.proofs.Common.{ℕ, List, [], ◌∷◌, Result}
use Rattle.ldp_quantity.specs.Results.{◌>>=◌}
use Rattle.ldp_tokens.specs.Tokens.{Token}
use Rattle.ldp_zone.specs.Steps.{Progress, step, finished}
use Rattle.ldp_zone.specs.declared.point.Point.{Point}
use Rattle.ldp_zone.specs.declared.fault.ZoneFault.{ZoneFault}

-- the rings of the tokens that are left, in a text of so many bytes
unfoldable pub rings_from : ℕ → Progress → List Token → Result (List (List Point)) ZoneFault
rings_from end p [] = finished end p
rings_from end p (token ∷ tokens) = step p token >>= λ next. rings_from end next tokens
