-- What the reader does with each token, of which its private functions speak: what may stand at
-- each spot of the text, and where the reading stands after it. This defines no text; it is proved
-- to be the grammar.
use Rattle.std.specs.Prelude.{ℕ, ◌+◌, Bool, true, false, ◌||◌, ℤ, pos, List, [], ◌∷◌, ◌++◌}
use Rattle.std.specs.Prelude.{Result, Ok, Err, if◌then◌else◌, codes}
use Rattle.ldp_tokens.specs.Tokens.{Token}
use Rattle.ldp_zone.specs.Signs.{is_word, is_open, is_close, is_comma, is_run}
use Rattle.ldp_quantity.specs.Results.{◌>>=◌}
use Rattle.ldp_zone.specs.Coordinates.{latitude, height}
use Rattle.ldp_zone.specs.Grammar.{longitude_behind, with_ring}
use Rattle.ldp_zone.specs.declared.point.Point.{Point}
use Rattle.ldp_zone.specs.declared.spot.Spot.{Spot}
use Rattle.ldp_zone.specs.declared.spot.Spot.TheVariants as spots
use Rattle.ldp_zone.specs.declared.fault.ZoneFault.{ZoneFault}
use Rattle.ldp_zone.specs.declared.fault.ZoneFault.TheVariants.{NotAPolygon, Measured, Trailing}

-- what was read so far: what may stand next, whether the geometry is a multipolygon, the whole
-- rings, the points of the ring that is open, the first number of a point whose second is still to
-- come, and how many points were begun
pub record Progress : Type 0 where
  pub spot : Spot
  pub multi : Bool
  pub rings : List (List Point)
  pub ring : List Point
  pub x : ℤ
  pub count : ℕ

-- what was read with a token more, or the fault
abbrev pub Step : Type 0
Step = Result Progress ZoneFault

-- nothing was read
abbrev pub begin : Progress
begin = record { spot = spots.Geometry; multi = false; rings = []; ring = []; x = pos 0; count = 0 }

-- a token that does not fit
abbrev pub unfit : Token → Step
unfit token = Err (NotAPolygon token.place)

-- a word was read: what may stand next, and whether the geometry is a multipolygon
abbrev pub behind_word : Spot → Bool → Progress → Step
behind_word spot multi p = Ok record p { spot = spot; multi = multi }

-- the word of the geometry
unfoldable pub geometry : Progress → Token → Step
geometry p token =
    if is_word token (codes "POLYGON") then behind_word spots.Dimension false p
    else if is_word token (codes "MULTIPOLYGON") then behind_word spots.Dimension true p
    else if is_word token (codes "POLYGONZ") then behind_word spots.Body false p
    else if is_word token (codes "MULTIPOLYGONZ") then behind_word spots.Body true p
    else unfit token

-- a `(`
unfoldable pub opened : Spot → Progress → Token → Step
opened next p token = if is_open token then Ok record p { spot = next } else unfit token

-- what stands behind the `(` of a geometry's text
abbrev pub within_body : Bool → Spot
within_body multi = if multi then spots.Polygon else spots.Ring

-- the text of the geometry
unfoldable pub body : Progress → Token → Step
body p token =
    if is_word token (codes "EMPTY") then Ok record p { spot = spots.End }
    else opened (within_body p.multi) p token

-- an optional Z; a geometry with M values is refused
unfoldable pub dimension : Progress → Token → Step
dimension p token =
    if is_word token (codes "Z") then Ok record p { spot = spots.Body }
    else if is_word token (codes "M") || is_word token (codes "ZM") then Err (Measured token.place)
    else body p token

-- the text of a polygon in a multipolygon
unfoldable pub polygon : Progress → Token → Step
polygon p token =
    if is_word token (codes "EMPTY") then Ok record p { spot = spots.PolygonEnd }
    else opened spots.Ring p token

-- the first number of a point
unfoldable pub begun : Progress → Token → Step
begun p token =
    longitude_behind p.count token
    >>= λ x. Ok record p { spot = spots.Second; x = x; count = p.count + 1 }

-- a point begins with a number; a bracket or a comma does not fit
unfoldable pub first : Progress → Token → Step
first p token = if is_run token then begun p token else unfit token

-- the second number of a point
unfoldable pub ended : Progress → Token → Step
ended p token =
    latitude token
    >>= λ y. Ok record p { spot = spots.Third; ring = p.ring ++ record { x = p.x; y = y } ∷ [] }

-- a second number; a bracket or a comma does not fit
unfoldable pub second : Progress → Token → Step
second p token = if is_run token then ended p token else unfit token

-- the `)` of a ring
unfoldable pub ring_whole : Progress → Step
ring_whole p =
    with_ring p.rings p.ring
    >>= λ rings. Ok record p { spot = spots.RingEnd; rings = rings; ring = [] }

-- behind a point
unfoldable pub point_end : Progress → Token → Step
point_end p token =
    if is_comma token then Ok record p { spot = spots.First }
    else if is_close token then ring_whole p
    else unfit token

-- the third number of a point, which is dropped
unfoldable pub dropped : Progress → Token → Step
dropped p token = height token >>= λ read. Ok record p { spot = spots.PointEnd }

-- a third number, or what stands behind a point
unfoldable pub third : Progress → Token → Step
third p token = if is_run token then dropped p token else point_end p token

-- what stands behind the `)` of a polygon's text
abbrev pub behind_polygon : Bool → Spot
behind_polygon multi = if multi then spots.PolygonEnd else spots.End

-- behind a ring
unfoldable pub ring_end : Progress → Token → Step
ring_end p token =
    if is_comma token then Ok record p { spot = spots.Ring }
    else if is_close token then Ok record p { spot = behind_polygon p.multi }
    else unfit token

-- behind a polygon in a multipolygon
unfoldable pub polygon_end : Progress → Token → Step
polygon_end p token =
    if is_comma token then Ok record p { spot = spots.Polygon }
    else if is_close token then Ok record p { spot = spots.End }
    else unfit token

-- what is read of a token at each spot; behind the geometry none may stand
abbrev pub step_at : Spot → Progress → Token → Step
step_at spots.Geometry p token = geometry p token
step_at spots.Dimension p token = dimension p token
step_at spots.Body p token = body p token
step_at spots.Polygon p token = polygon p token
step_at spots.Ring p token = opened spots.First p token
step_at spots.First p token = first p token
step_at spots.Second p token = second p token
step_at spots.Third p token = third p token
step_at spots.PointEnd p token = point_end p token
step_at spots.RingEnd p token = ring_end p token
step_at spots.PolygonEnd p token = polygon_end p token
step_at spots.End p token = Err (Trailing token.place)

-- one token more
unfoldable pub step : Progress → Token → Step
step p token = step_at p.spot p token

-- whether the geometry is whole
abbrev pub is_end : Spot → Bool
is_end spots.End = true
is_end _ = false

-- at the end of a text of so many bytes
unfoldable pub finished : ℕ → Progress → Result (List (List Point)) ZoneFault
finished end p = if is_end p.spot then Ok p.rings else Err (NotAPolygon end)
