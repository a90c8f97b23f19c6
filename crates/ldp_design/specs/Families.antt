-- The families of designs. Ranges and limits are own choices of this project.
use Rattle.std.specs.Prelude.{◌≡◌, ℕ, zero, suc, ◌-◌, ◌*◌, ◌≤◌, ◌⊎◌, ℤ, pos, neg_ℤ, ◌+ℤ◌, ◌*ℤ◌}
use Rattle.std.specs.Prelude.{◌≤ℤ◌, ◌<ℤ◌, List, length, All, Option, None, slice_get}
use Rattle.ldp_quantity.specs.Between.{IsBetween}
use Rattle.ldp_quantity.specs.Quantity.{degrees, tenths, IsLatitude}
use Rattle.ldp_design.specs.declared.axis.Axis.{Axis}
use Rattle.ldp_design.specs.declared.family.Kind.{Kind}
use Rattle.ldp_design.specs.declared.family.Kind.TheVariants.{Tm, Lambert, Hotine, Lambert2}
use Rattle.ldp_design.specs.declared.family.Family.{Family}
use Rattle.ldp_design.specs.Limits.{most_azimuth, most_families}

-- the value with this index, counted from 0
abbrev pub value_at : Axis → ℕ → ℤ
value_at axis i = axis.from +ℤ (pos i *ℤ axis.step)

-- the value with the greatest index
abbrev pub last_value : Axis → ℤ
last_value axis = value_at axis (axis.count - 1)

-- the axis of one value
abbrev pub single_axis : ℤ → Axis
single_axis value = record { from = value; step = pos 1; count = 1 }

-- an axis of 1 to 100,000 values from low to high; its step is above 0 and at most ten times high
pub record IsAxis (low high : ℤ) (axis : Axis) : Type 0 where
  pub first : low ≤ℤ axis.from
  pub last : last_value axis ≤ℤ high
  pub forward : pos 0 <ℤ axis.step
  pub step : axis.step ≤ℤ (pos 10 *ℤ high)
  pub some : 1 ≤ axis.count
  pub few : axis.count ≤ 100_000

-- an axis of one value from low to high
pub record IsOneValue (low high : ℤ) (axis : Axis) : Type 0 where
  pub range : IsAxis low high axis
  pub single : axis ≡ single_axis axis.from

-- an axis of latitudes, from 80 degrees south to 80 degrees north
abbrev pub IsLatitudeAxis : Axis → Type 0
IsLatitudeAxis axis = IsAxis (neg_ℤ (degrees 80)) (degrees 80) axis

-- an axis of longitudes, from 180 degrees west to 360 degrees east
abbrev pub IsLongitudeAxis : Axis → Type 0
IsLongitudeAxis axis = IsAxis (neg_ℤ (degrees 180)) (degrees 360) axis

-- an axis of azimuths, from -85 to 85 degrees
abbrev pub IsAzimuthAxis : Axis → Type 0
IsAzimuthAxis axis = IsAxis (neg_ℤ most_azimuth) most_azimuth axis

-- an axis of scale factors, from one half to 2
abbrev pub IsScaleAxis : Axis → Type 0
IsScaleAxis axis = IsAxis (tenths 5) (tenths 20) axis

-- an axis of latitudes, all of them at least 1 degree north, or all at least 1 degree south
pub record IsParallelAxis (axis : Axis) : Type 0 where
  pub range : IsLatitudeAxis axis
  pub side : (degrees 1 ≤ℤ axis.from) ⊎ (last_value axis ≤ℤ neg_ℤ (degrees 1))

-- a false easting or northing, in millimetres: at most 100,000 km in absolute value
abbrev pub IsFalseOrigin : ℤ → Type 0
IsFalseOrigin = IsBetween (neg_ℤ (pos 100_000_000_000)) (pos 100_000_000_000)

-- transverse Mercator: the longitude and the scale factor may vary, the latitude may not; azimuth
-- and latitude of false origin are 0
pub record IsTm (f : Family) : Type 0 where
  pub lat : IsOneValue (neg_ℤ (degrees 80)) (degrees 80) f.lat
  pub lon : IsLongitudeAxis f.lon
  pub azimuth : f.azimuth ≡ single_axis (pos 0)
  pub scale : IsScaleAxis f.scale
  pub origin : f.origin ≡ pos 0

-- Lambert with one standard parallel: it and the scale factor may vary, the longitude may not
pub record IsLambert (f : Family) : Type 0 where
  pub lat : IsParallelAxis f.lat
  pub lon : IsOneValue (neg_ℤ (degrees 180)) (degrees 360) f.lon
  pub azimuth : f.azimuth ≡ single_axis (pos 0)
  pub scale : IsScaleAxis f.scale
  pub origin : f.origin ≡ pos 0

-- oblique Mercator: all four may vary; the centre is at least 1 degree from the equator
pub record IsHotine (f : Family) : Type 0 where
  pub lat : IsParallelAxis f.lat
  pub lon : IsLongitudeAxis f.lon
  pub azimuth : IsAzimuthAxis f.azimuth
  pub scale : IsScaleAxis f.scale
  pub origin : f.origin ≡ pos 0

-- Lambert with two standard parallels: both may vary, the second one on the third axis; the
-- longitude may not, and the scale factor is 1
pub record IsLambert2 (f : Family) : Type 0 where
  pub lat : IsParallelAxis f.lat
  pub lon : IsOneValue (neg_ℤ (degrees 180)) (degrees 360) f.lon
  pub azimuth : IsParallelAxis f.azimuth
  pub scale : f.scale ≡ single_axis (tenths 10)
  pub origin : IsLatitude f.origin

-- the axes and the latitude of false origin are such as the kind asks
abbrev pub IsOfKind : Kind → Family → Type 0
IsOfKind Tm f = IsTm f
IsOfKind Lambert f = IsLambert f
IsOfKind Hotine f = IsHotine f
IsOfKind Lambert2 f = IsLambert2 f

-- the number of designs of a family
abbrev pub design_count : Family → ℕ
design_count f = f.lat.count * f.lon.count * f.azimuth.count * f.scale.count

-- a family that a text of design grids may have
pub record IsValid (f : Family) : Type 0 where
  pub kind : IsOfKind f.kind f
  pub easting : IsFalseOrigin f.easting
  pub northing : IsFalseOrigin f.northing
  pub few : design_count f ≤ 1_000_000_000_000

-- valid design grids: at most 16 families, each of them valid
pub record AreGrids (families : List Family) : Type 0 where
  pub valid : All IsValid families
  pub few : length families ≤ most_families

-- the family with this number, counted from 1; None if there is none
abbrev pub family_of : List Family → ℕ → Option Family
family_of families zero = None
family_of families (suc index) = slice_get families index
