-- The grammar of a zone's text, over the list of its tokens: the polygon and multipolygon texts of
-- OGC 06-103r4 ("Well-known Text Representation for Geometry"). A phrase takes the tokens that are
-- left; it hands on what it has read and the tokens behind it. The first token that does not fit is
-- the fault, or the end of the text, which has `end` bytes.
-- The words with Z in one, a third number at any point, no EMPTY in place of a ring, the limit of
-- points and the faults are own choices of this project.
use Rattle.std.specs.Prelude.{ℕ, zero, suc, ◌+◌, ◌-◌, Bool, false, ◌||◌, nat_lt, nat_le, ℤ}
use Rattle.std.specs.Prelude.{List, [], ◌∷◌, ◌++◌, length, slice_get, Option, Some, Result, Ok, Err}
use Rattle.std.specs.Prelude.{if◌then◌else◌, codes}
use Rattle.ldp_tokens.specs.Tokens.{Token, tokens_of}
use Rattle.ldp_zone.specs.Signs.{signs, is_word, is_open, is_close, is_comma, is_run}
use Rattle.ldp_quantity.specs.Results.{◌>>=◌}
use Rattle.ldp_zone.specs.Coordinates.{longitude, latitude, height}
use Rattle.ldp_zone.specs.Inside.{same_point}
use Rattle.ldp_zone.specs.Area.{point_count}
use Rattle.ldp_zone.specs.declared.point.Point.{Point}
use Rattle.ldp_zone.specs.declared.fault.ZoneFault.{ZoneFault}
use Rattle.ldp_zone.specs.declared.fault.ZoneFault.TheVariants.{NotAPolygon, Measured, OpenRing}
use Rattle.ldp_zone.specs.declared.fault.ZoneFault.TheVariants.{ShortRing, TooManyPoints, Trailing}

-- what a phrase has read, and the tokens behind it
pub record Read (A : Type 0) : Type 0 where
  pub value : A
  pub rest : List Token

-- a phrase, which reads a value
abbrev pub Phrase : Type 0 → Type 0
Phrase A = List Token → Result (Read A) ZoneFault

-- the next token does not fit, or there is none
abbrev pub unfit : {A : Type 0} → ℕ → List Token → Result A ZoneFault
unfit end [] = Err (NotAPolygon end)
unfit end (token ∷ rest) = Err (NotAPolygon token.place)

-- Lists.

-- behind an entry of a list: a comma and more of the list, or the parenthesis that closes it
abbrev pub behind_entry : {A : Type 0} → ℕ → Phrase A → A → Phrase A
behind_entry end more value [] = unfit end []
behind_entry end more value (token ∷ rest) =
    if is_comma token then more rest
    else if is_close token then Ok record { value = value; rest = rest }
    else unfit end (token ∷ rest)

-- entries with commas between them and the parenthesis that closes the list. Each entry adds to
-- what was read before it. There are at most `most` entries: a list of tokens holds no more entries
-- than tokens.
abbrev pub entries : {A : Type 0} → ℕ → (A → Phrase A) → ℕ → A → Phrase A
entries end entry zero before tokens = unfit end tokens
entries end entry (suc most) before tokens =
    entry before tokens
    >>= λ one. behind_entry end (entries end entry most one.value) one.value one.rest

-- entries in parentheses
abbrev pub list_of : {A : Type 0} → ℕ → (A → Phrase A) → A → Phrase A
list_of end entry before [] = unfit end []
list_of end entry before (token ∷ rest) =
    if is_open token then entries end entry (length rest) before rest
    else unfit end (token ∷ rest)

-- Points.

-- a number, which `read` reads
abbrev pub number : {A : Type 0} → ℕ → (Token → Result A ZoneFault) → Phrase A
number end read [] = unfit end []
number end read (token ∷ rest) =
    if is_run token then (read token >>= λ n. Ok record { value = n; rest = rest })
    else unfit end (token ∷ rest)

-- the first number of a point that stands behind so many others in the text, of which there are at
-- most 10,000
abbrev pub longitude_behind : ℕ → Token → Result ℤ ZoneFault
longitude_behind points token =
    if nat_le 10_000 points then Err TooManyPoints else longitude token

-- an optional third number, which is dropped: the tokens behind it
abbrev pub third : List Token → Result (List Token) ZoneFault
third [] = Ok []
third (token ∷ rest) =
    if is_run token then (height token >>= λ dropped. Ok rest) else Ok (token ∷ rest)

-- a point: two numbers, or three; it stands behind the points of this ring and those of the rings
-- before it
abbrev pub point : ℕ → List (List Point) → List Point → Phrase (List Point)
point end rings before tokens = do
  x ← number end (longitude_behind (point_count rings + length before)) tokens
  y ← number end latitude x.rest
  rest ← third y.rest
  Ok record { value = before ++ record { x = x.value; y = y.value } ∷ []; rest = rest }

-- Rings.

-- whether a ring is closed: both ends are there, and they are one point
abbrev pub same_ends : Option Point → Option Point → Bool
same_ends (Some p) (Some q) = same_point p q
same_ends _ _ = false

-- the last point is the first
unfoldable pub is_closed : List Point → Bool
is_closed ring = same_ends (slice_get ring 0) (slice_get ring (length ring - 1))

-- rings, and one more that has at least four points, of which the last is the first; rings are
-- numbered from 0 through the whole text
unfoldable pub with_ring : List (List Point) → List Point → Result (List (List Point)) ZoneFault
with_ring rings ring =
    if nat_lt (length ring) 4 then Err (ShortRing (length rings))
    else if is_closed ring then Ok (rings ++ ring ∷ [])
    else Err (OpenRing (length rings))

-- a ring: points in parentheses
abbrev pub ring : ℕ → List (List Point) → Phrase (List (List Point))
ring end before tokens = do
  points ← list_of end (point end before) [] tokens
  rings ← with_ring before points.value
  Ok record { value = rings; rest = points.rest }

-- Polygons.

-- EMPTY, or a body
abbrev pub empty_or : {A : Type 0} → ℕ → (A → Phrase A) → A → Phrase A
empty_or end body before [] = unfit end []
empty_or end body before (token ∷ rest) =
    if is_word token (codes "EMPTY") then Ok record { value = before; rest = rest }
    else body before (token ∷ rest)

-- the text of a polygon: EMPTY, or rings in parentheses
abbrev pub polygon : ℕ → List (List Point) → Phrase (List (List Point))
polygon end before tokens = empty_or end (list_of end (ring end)) before tokens

-- the text of a multipolygon: EMPTY, or polygon texts in parentheses
abbrev pub multipolygon : ℕ → List (List Point) → Phrase (List (List Point))
multipolygon end before tokens = empty_or end (list_of end (polygon end)) before tokens

-- Geometries.

-- behind the word: an optional Z, and the text; a geometry with M values is refused
abbrev pub dimension : {A : Type 0} → ℕ → Phrase A → Phrase A
dimension end text [] = unfit end []
dimension end text (token ∷ rest) =
    if is_word token (codes "Z") then text rest
    else if is_word token (codes "M") || is_word token (codes "ZM") then Err (Measured token.place)
    else text (token ∷ rest)

-- the geometry: its word, and its text
abbrev pub geometry : ℕ → Phrase (List (List Point))
geometry end [] = unfit end []
geometry end (token ∷ rest) =
    if is_word token (codes "POLYGON") then dimension end (polygon end []) rest
    else if is_word token (codes "MULTIPOLYGON") then dimension end (multipolygon end []) rest
    else if is_word token (codes "POLYGONZ") then polygon end [] rest
    else if is_word token (codes "MULTIPOLYGONZ") then multipolygon end [] rest
    else unfit end (token ∷ rest)

-- nothing stands behind the geometry
abbrev pub nothing_behind : {A : Type 0} → A → List Token → Result A ZoneFault
nothing_behind value [] = Ok value
nothing_behind value (token ∷ rest) = Err (Trailing token.place)

-- the rings of a text, or its first fault
unfoldable pub zone_of : List ℕ → Result (List (List Point)) ZoneFault
zone_of text =
    geometry (length text) (tokens_of signs text)
    >>= λ read. nothing_behind read.value read.rest
