-- Where points may lie, in 10^-12 degrees, and what a zone keeps. (Own choices of this project.)
use Rattle.std.specs.Prelude.{ℕ, ◌-◌, ◌^◌, ◌≤◌, ◌≡◌, Bool, ◌&&◌, ℤ, pos, neg_ℤ}
use Rattle.std.specs.Prelude.{List, length, All, slice_get}
use Rattle.std.specs.List.{sum_by}
use Rattle.ldp_quantity.specs.Between.{int_between, IsBetween}
use Rattle.ldp_quantity.specs.Quantity.{degrees, IsLongitude, IsLatitude}
use Rattle.ldp_zone.specs.declared.point.Point.{Point}
use Rattle.ldp_zone.specs.declared.edge.Edge.{Edge}

-- a point in the area of longitudes -180 to 360 and latitudes -80 to 80 degrees
pub record IsNear (p : Point) : Type 0 where
  pub longitude : IsLongitude p.x
  pub latitude : IsLatitude p.y

-- the closed rectangle of longitude -180 to 360 and latitude -80 to 80 degrees
abbrev pub is_in_area : Point → Bool
is_in_area p =
    int_between (neg_ℤ (degrees 180)) (degrees 360) p.x
    && int_between (neg_ℤ (degrees 80)) (degrees 80) p.y

-- an edge that a zone may have
pub record IsEdge (edge : Edge) : Type 0 where
  pub start : IsNear edge.start
  pub end : IsNear edge.end

-- at most 10^20 in absolute value
abbrev pub IsFar : ℤ → Type 0
IsFar = IsBetween (neg_ℤ (pos (10 ^ 20))) (pos (10 ^ 20))

-- a point whose coordinates are at most 10^20 in absolute value
pub record IsPlace (p : Point) : Type 0 where
  pub x : IsFar p.x
  pub y : IsFar p.y

-- what every ring of a zone keeps: its points are in range, there are at least four, and the last
-- is the first
pub record IsRing (ring : List Point) : Type 0 where
  pub near : All IsNear ring
  pub some : 4 ≤ length ring
  pub closed : slice_get ring 0 ≡ slice_get ring (length ring - 1)

-- the points of all rings, closing points too
abbrev pub point_count : List (List Point) → ℕ
point_count rings = sum_by length rings

-- the rings of a zone: at most 10,000 points, closing points too
pub record IsZone (rings : List (List Point)) : Type 0 where
  pub each : All IsRing rings
  pub few : point_count rings ≤ 10_000
