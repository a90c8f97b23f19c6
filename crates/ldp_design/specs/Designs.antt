-- Designs, the admissible ones, and their order.
use Rattle.std.specs.Prelude.{◌≡◌, ℕ, ◌<◌, nat_lt, ◌&&◌, Bool, false, ℤ, neg_ℤ, List, Option}
use Rattle.std.specs.Prelude.{None, Some}
use Rattle.std.specs.Ordering.{nat_cmp, ordering_then}
use Rattle.std.specs.declared.cmp.Ordering.{Ordering}
use Rattle.ldp_quantity.specs.Between.{IsBetween}
use Rattle.ldp_quantity.specs.Quantity.{IsLatitude, IsLongitude, IsScale}
use Rattle.ldp_design.specs.declared.axis.Axis.{Axis}
use Rattle.ldp_design.specs.declared.axis.AxisName.{AxisName}
use Rattle.ldp_design.specs.declared.axis.AxisName.TheVariants.{Lat, Lon, Azimuth, Scale}
use Rattle.ldp_design.specs.declared.family.Family.{Family}
use Rattle.ldp_design.specs.declared.design.Design.{Design}
use Rattle.ldp_design.specs.Families.{family_of}
use Rattle.ldp_design.specs.Limits.{most_azimuth}

-- the values from which a family chooses on this axis
abbrev pub axis_of : AxisName → Family → Axis
axis_of Lat f = f.lat
axis_of Lon f = f.lon
axis_of Azimuth f = f.azimuth
axis_of Scale f = f.scale

-- an azimuth, from -85 to 85 degrees
abbrev pub IsAzimuth : ℤ → Type 0
IsAzimuth = IsBetween (neg_ℤ most_azimuth) most_azimuth

-- a value that the designs of some kind may have on this axis
abbrev pub IsValueOn : AxisName → ℤ → Type 0
IsValueOn Lat value = IsLatitude value
IsValueOn Lon value = IsLongitude value
IsValueOn Azimuth value = IsAzimuth value
IsValueOn Scale value = IsScale value

-- which value of this axis a design has, counted from 0
abbrev pub index_of : AxisName → Design → ℕ
index_of Lat d = d.lat
index_of Lon d = d.lon
index_of Azimuth d = d.azimuth
index_of Scale d = d.scale

-- the index of each axis is below its count
pub record IsDesignOf (f : Family) (d : Design) : Type 0 where
  pub lat : d.lat < f.lat.count
  pub lon : d.lon < f.lon.count
  pub azimuth : d.azimuth < f.azimuth.count
  pub scale : d.scale < f.scale.count

-- an admissible design: its family exists, and it is one of its designs
pub record IsAdmitted (families : List Family) (d : Design) : Type 0 where
  pub family : Family
  pub found : family_of families d.family ≡ Some family
  pub within : IsDesignOf family d

-- the tests of both
abbrev pub has_design : Family → Design → Bool
has_design f d =
    (nat_lt d.lat f.lat.count && nat_lt d.lon f.lon.count)
    && (nat_lt d.azimuth f.azimuth.count && nat_lt d.scale f.scale.count)

-- whether the family has this design; false if there is no family
abbrev pub is_design_of : Option Family → Design → Bool
is_design_of None d = false
is_design_of (Some f) d = has_design f d

-- the test whether a design is admissible
abbrev pub is_admitted : List Family → Design → Bool
is_admitted families d = is_design_of (family_of families d.family) d

-- by family, latitude, longitude, azimuth and scale
abbrev pub design_cmp : Design → Design → Ordering
design_cmp a b =
    ordering_then (nat_cmp a.family b.family)
    (ordering_then (nat_cmp a.lat b.lat)
    (ordering_then (nat_cmp a.lon b.lon)
    (ordering_then (nat_cmp a.azimuth b.azimuth) (nat_cmp a.scale b.scale))))
