-- What the private functions of the reader speak of: what the numbers, axes and families that were
-- read keep.
use Rattle.std.specs.Prelude.{◌≡◌, ◌^◌, ◌≤◌, false, ℤ, pos, negsuc, ◌*ℤ◌, ◌≤ℤ◌}
use Rattle.ldp_design.specs.declared.axis.Axis.{Axis}
use Rattle.ldp_design.specs.declared.family.Family.{Family}
use Rattle.ldp_design.specs.declared.family.Kind.{Kind}
use Rattle.ldp_design.specs.Families.{single_axis, last_value, design_count, IsValid}
use Rattle.ldp_grids.specs.declared.column.Form.{Form}
use Rattle.ldp_grids.specs.declared.column.Form.TheVariants as forms
use Rattle.ldp_design.specs.declared.key.Key.{Key}
use Rattle.ldp_design.specs.declared.key.Key.TheVariants as keys
use Rattle.ldp_grids.specs.declared.quantities.Quantities.{Quantities}
use Rattle.ldp_design.specs.declared.key_range.KeyRange.{KeyRange}
use Rattle.ldp_grids.specs.Columns.{form_of}
use Rattle.ldp_design.specs.KeyRanges.{range_of, IsInKeyRange}
use Rattle.ldp_grids.specs.Axes.{unless_given}
use Rattle.ldp_grids.specs.Families.{family_with, crosses_equator}

-- an axis from its first to its last value
pub record IsAxisIn (range : KeyRange) (axis : Axis) : Type 0 where
  pub first : IsInKeyRange range axis.from
  pub last : IsInKeyRange range (last_value axis)
  pub forward : pos 1 ≤ℤ axis.step
  pub step : axis.step ≤ℤ (pos 10 *ℤ range.high)
  pub some : 1 ≤ axis.count
  pub few : axis.count ≤ 100_000

-- one value
pub record IsValueIn (range : KeyRange) (axis : Axis) : Type 0 where
  pub first : IsInKeyRange range axis.from
  pub single : axis ≡ single_axis axis.from

-- the axis that a key of this form has: the default alone, one value in range, or values in range
abbrev pub HasForm : Form → KeyRange → ℤ → Axis → Type 0
HasForm forms.Never range default axis = axis ≡ single_axis default
HasForm forms.Single range default axis = IsValueIn range axis
HasForm forms.Axis range default axis = IsAxisIn range axis
HasForm forms.Optional range default axis = IsValueIn range axis

-- the axis of a key in a family of some kind
abbrev pub IsQuantity : Key → Kind → Axis → Type 0
IsQuantity key kind axis = HasForm (form_of key kind) (range_of key kind) (unless_given key) axis

-- the quantities of a family of some kind
pub record AreQuantities (kind : Kind) (q : Quantities) : Type 0 where
  pub lat : IsQuantity keys.Lat kind q.lat
  pub lat2 : IsQuantity keys.Lat2 kind q.lat2
  pub lon : IsQuantity keys.Lon kind q.lon
  pub azimuth : IsQuantity keys.Azimuth kind q.azimuth
  pub scale : IsQuantity keys.Scale kind q.scale
  pub origin : IsQuantity keys.Origin kind q.origin
  pub easting : IsQuantity keys.Easting kind q.easting
  pub northing : IsQuantity keys.Northing kind q.northing

-- the family of this kind with these quantities
abbrev pub family_from : Kind → Quantities → Family
family_from kind q =
    family_with kind q.lat q.lat2 q.lon q.azimuth q.scale q.origin q.easting q.northing

-- the bounds of every axis that is read
pub record IsBounded (axis : Axis) : Type 0 where
  pub low : negsuc 399_999_999_999_999 ≤ℤ axis.from
  pub high : axis.from ≤ℤ pos 2_000_000_000_000_000
  pub forward : pos 1 ≤ℤ axis.step
  pub step : axis.step ≤ℤ pos 20_000_000_000_000_000
  pub some : 1 ≤ axis.count
  pub few : axis.count ≤ 100_000

-- a family of quantities that were read, which is valid where it passes the last two tests
pub record IsRead (f : Family) : Type 0 where
  pub lat : IsBounded f.lat
  pub third : IsBounded f.azimuth
  pub valid : crosses_equator f ≡ false → design_count f ≤ 10 ^ 12 → IsValid f
