-- The measure of an axis in a box, and the axis that is split. (Own choice of this project.)
use Rattle.std.specs.Prelude.{◌*ℤ◌, ℤ, pos, ◌-ℤ◌, int_lt, if◌then◌else◌}
use Rattle.ldp_design.specs.declared.axis.AxisName.{AxisName}
use Rattle.ldp_design.specs.declared.axis.AxisName.TheVariants.{Lat, Lon, Azimuth, Scale}
use Rattle.ldp_design.specs.declared.family.Family.{Family}
use Rattle.ldp_design.specs.declared.design_box.DesignBox.{DesignBox}
use Rattle.ldp_design.specs.Families.{value_at}
use Rattle.ldp_design.specs.Inputs.{angle_at}

-- the width of a box on this axis: of an angle in units of 10^-15 radians, and of the scale factor
-- 64 times its width
unfoldable pub measure : Family → DesignBox → AxisName → ℤ
measure f b Lat = angle_at f.lat b.lat.hi -ℤ angle_at f.lat b.lat.lo
measure f b Lon = angle_at f.lon b.lon.hi -ℤ angle_at f.lon b.lon.lo
measure f b Azimuth = angle_at f.azimuth b.azimuth.hi -ℤ angle_at f.azimuth b.azimuth.lo
measure f b Scale = pos 64 *ℤ (value_at f.scale b.scale.hi -ℤ value_at f.scale b.scale.lo)

-- the second of two axes where its measure is greater, else the first
abbrev pub wider : Family → DesignBox → AxisName → AxisName → AxisName
wider f b first second = if int_lt (measure f b first) (measure f b second) then second else first

-- the axis of greatest measure; of equal ones the first in the order latitude, longitude, azimuth,
-- scale
abbrev pub widest : Family → DesignBox → AxisName
widest f b = wider f b (wider f b (wider f b Lat Lon) Azimuth) Scale
