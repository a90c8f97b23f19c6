-- What the grammar's phrases still have to read at each spot of a text, in the form that they
-- compute to. That the reader reads the same there is said for all numbers of items that the lists
-- that are open may have more, if they are no fewer than the tokens that are left.
use Rattle.std.proofs.Common.{◌≡◌, ℕ, ◌+◌, ◌≤◌, Bool, true, false, ℤ, List, [], ◌∷◌, ◌++◌, length}
use Rattle.std.proofs.Common.{Result, Ok, Err, refl}
use Rattle.std.proofs.lemmas.List.Sums.{sum_by_push}
use Rattle.ldp_tokens.specs.Tokens.{Token}
use Rattle.ldp_quantity.specs.Results.{◌>>=◌}
use Rattle.ldp_zone.specs.Coordinates.{latitude}
use Rattle.ldp_zone.specs.Area.{point_count}
use Rattle.ldp_zone.specs.Grammar.{Read, behind_entry, entries, number, third, point, with_ring}
use Rattle.ldp_zone.specs.Grammar.{ring, polygon, nothing_behind}
use Rattle.ldp_zone.specs.Seen.{pending}
use Rattle.ldp_zone.specs.Steps as steps
use Rattle.ldp_zone.proofs.TokensLeft.{rings_from}
use Rattle.ldp_zone.specs.declared.point.Point.{Point}
use Rattle.ldp_zone.specs.declared.spot.Spot.{Spot}
use Rattle.ldp_zone.specs.declared.spot.Spot.TheVariants as spots
use Rattle.ldp_zone.specs.declared.fault.ZoneFault.{ZoneFault}

abbrev pub Rings : Type 0
Rings = List (List Point)

-- What the grammar reads behind a point, a ring or a polygon, in a list that may have so many items
-- more.
abbrev pub behind_point : ℕ → Rings → ℕ → Read (List Point) → Result (Read (List Point)) ZoneFault
behind_point end rings most one = behind_entry end (entries end (point end rings) most one.value)
    one.value one.rest

abbrev pub behind_ring : ℕ → ℕ → Read Rings → Result (Read Rings) ZoneFault
behind_ring end most one = behind_entry end (entries end (ring end) most one.value) one.value
    one.rest

abbrev pub behind_polygon : ℕ → ℕ → Read Rings → Result (Read Rings) ZoneFault
behind_polygon end most one = behind_entry end (entries end (polygon end) most one.value) one.value
    one.rest

-- at the end of the geometry
abbrev pub last : Read Rings → Result Rings ZoneFault
last read = nothing_behind read.value read.rest

-- From the rings of a polygon to the end of the text; a multipolygon may have so many polygons
-- more.
abbrev pub with_rings : ℕ → Bool → ℕ → Result (Read Rings) ZoneFault → Result Rings ZoneFault
with_rings end true a rings = (rings >>= behind_polygon end a) >>= last
with_rings end false a rings = rings >>= last

-- the ring of these points, behind other rings
abbrev pub ring_of : Rings → Read (List Point) → Result (Read Rings) ZoneFault
ring_of before points = with_ring before points.value
    >>= λ rings. Ok record { value = rings; rest = points.rest }

-- From the points of a ring to the end of the text; its polygon may have b rings more.
abbrev pub with_points : ℕ → Bool → ℕ → ℕ → Rings → Result (Read (List Point)) ZoneFault
    → Result Rings ZoneFault
with_points end multi a b before points = with_rings end multi a ((points >>= ring_of before)
    >>= behind_ring end b)

-- from the second number of a point to its end
abbrev pub from_second : ℕ → List Point → ℤ → List Token → Result (Read (List Point)) ZoneFault
from_second end points x tokens = do
  y ← number end latitude tokens
  rest ← third y.rest
  Ok record { value = points ++ record { x = x; y = y.value } ∷ []; rest = rest }

-- from behind the second number of a point to its end
abbrev pub from_third : List Point → List Token → Result (Read (List Point)) ZoneFault
from_third points tokens = third tokens >>= λ rest. Ok record { value = points; rest = rest }

-- the reader at a spot
abbrev pub reader_at : Spot → Bool → Rings → List Point → ℤ → ℕ → steps.Progress
reader_at spot multi rings points x count =
    record { spot = spot; multi = multi; rings = rings; ring = points; x = x; count = count }

-- At a spot of a list of polygons, of rings or of points the reader reads what the grammar still
-- has to read there; the lists that are open may have a, b and c items more.
abbrev pub InPolygons : ℕ → List Token → Spot → (Rings → ℕ → Result (Read Rings) ZoneFault) → Type 0
InPolygons end tokens spot still = (rings : Rings) (x : ℤ) (count a : ℕ) → count ≡ point_count rings
    → length tokens ≤ a
    → rings_from end (reader_at spot true rings [] x count) tokens ≡ (still rings a >>= last)

abbrev pub InRings : ℕ → List Token → Spot → (Rings → ℕ → Result (Read Rings) ZoneFault) → Type 0
InRings end tokens spot still = (multi : Bool) (rings : Rings) (x : ℤ) (count a b : ℕ)
    → count ≡ point_count rings
    → length tokens ≤ a → length tokens ≤ b
    → rings_from end (reader_at spot multi rings [] x count) tokens
    ≡ with_rings end multi a (still rings b)

abbrev pub InPoints : ℕ → List Token → Spot
    → (Rings → List Point → ℤ → ℕ → Result (Read (List Point)) ZoneFault) → Type 0
InPoints end tokens spot still = (multi : Bool) (rings : Rings) (points : List Point) (x : ℤ)
    (count a b c : ℕ)
    → count ≡ point_count rings + length points + pending spot
    → length tokens ≤ a → length tokens ≤ b → length tokens ≤ c
    → rings_from end (reader_at spot multi rings points x count) tokens
    ≡ with_points end multi a b rings (still rings points x c)

abbrev pub AtPolygon : ℕ → List Token → Type 0
AtPolygon end tokens = InPolygons end tokens spots.Polygon
    (λ rings a. entries end (polygon end) a rings tokens)

abbrev pub AtPolygonEnd : ℕ → List Token → Type 0
AtPolygonEnd end tokens = InPolygons end tokens spots.PolygonEnd
    (λ rings a. behind_polygon end a record { value = rings; rest = tokens })

abbrev pub AtRing : ℕ → List Token → Type 0
AtRing end tokens = InRings end tokens spots.Ring (λ rings b. entries end (ring end) b rings tokens)

abbrev pub AtRingEnd : ℕ → List Token → Type 0
AtRingEnd end tokens = InRings end tokens spots.RingEnd
    (λ rings b. behind_ring end b record { value = rings; rest = tokens })

abbrev pub AtFirst : ℕ → List Token → Type 0
AtFirst end tokens = InPoints end tokens spots.First
    (λ rings points x c. entries end (point end rings) c points tokens)

abbrev pub AtSecond : ℕ → List Token → Type 0
AtSecond end tokens = InPoints end tokens spots.Second
    (λ rings points x c. from_second end points x tokens >>= behind_point end rings c)

abbrev pub AtThird : ℕ → List Token → Type 0
AtThird end tokens = InPoints end tokens spots.Third (λ rings points x c. from_third points tokens
    >>= behind_point end rings c)

abbrev pub AtPointEnd : ℕ → List Token → Type 0
AtPointEnd end tokens = InPoints end tokens spots.PointEnd
    (λ rings points x c. behind_point end rings c record { value = points; rest = tokens })

-- so it is at each spot of a list
pub record Resumes (end : ℕ) (tokens : List Token) : Type 0 where
  pub polygon : AtPolygon end tokens
  pub polygon_end : AtPolygonEnd end tokens
  pub ring : AtRing end tokens
  pub ring_end : AtRingEnd end tokens
  pub first : AtFirst end tokens
  pub second : AtSecond end tokens
  pub third : AtThird end tokens
  pub point_end : AtPointEnd end tokens

-- a fault is handed on to the end of the text
pub fault : (end : ℕ) (multi : Bool) (a : ℕ) (what : ZoneFault)
    → Err what ≡ with_rings end multi a (Err what)
fault end true a what = refl
fault end false a what = refl

-- nothing may stand behind the geometry
pub at_end : (end : ℕ) (multi : Bool) (rings : Rings) (points : List Point) (x : ℤ) (count : ℕ)
    (tokens : List Token)
    → rings_from end (reader_at spots.End multi rings points x count) tokens
    ≡ nothing_behind rings tokens
unfolding rings_from steps.step steps.finished
at_end end multi rings points x count [] = refl
at_end end multi rings points x count (token ∷ rest) = refl

pub more_points : (rings : Rings) (points : List Point)
    → point_count (rings ++ points ∷ []) ≡ point_count rings + length points
more_points rings points = sum_by_push length rings points
