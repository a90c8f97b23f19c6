-- The axes of a valid family: three of angles and one of scale factors.
use Rattle.std.proofs.Common.{arith, pos, subst, sym, ℕ, ℤ, ◌<◌, ◌≡◌}
use Rattle.std.proofs.lemmas.Int.{ints}
use Rattle.ldp_quantity.specs.Quantity.{tenths}
use Rattle.ldp_design.specs.declared.axis.Axis.{Axis}
use Rattle.ldp_design.specs.declared.axis.AxisName.{AxisName}
use Rattle.ldp_design.specs.declared.axis.AxisName.TheVariants.{Lat, Lon, Azimuth, Scale}
use Rattle.ldp_design.specs.declared.family.Kind.{Kind}
use Rattle.ldp_design.specs.declared.family.Kind.TheVariants.{Tm, Lambert, Hotine, Lambert2}
use Rattle.ldp_design.specs.declared.family.Family.{Family}
use Rattle.ldp_design.specs.Families.{IsAxis, IsLatitudeAxis, IsLongitudeAxis, IsAzimuthAxis}
use Rattle.ldp_design.specs.Families.{IsScaleAxis, IsOfKind, IsValid, single_axis, value_at}
use Rattle.ldp_design.specs.Designs.{axis_of, IsValueOn}
use Rattle.ldp_quantity.specs.Between.{IsBetween}
use Rattle.ldp_design.proofs.Axes.{value-within}
use Rattle.ldp_design.specs.Inputs.{IsAngleAxis, IsNumberAxis}

-- the axes of each kind are in the ranges of all kinds
pub record HasRanges (f : Family) : Type 0 where
  pub lat : IsLatitudeAxis f.lat
  pub lon : IsLongitudeAxis f.lon
  pub azimuth : IsAzimuthAxis f.azimuth
  pub scale : IsScaleAxis f.scale

parallel_azimuth : (axis : Axis) → IsLatitudeAxis axis → IsAzimuthAxis axis
parallel_azimuth axis h = record {
  first = omega (arith, ints, h.first);
  last = omega (arith, ints, h.last);
  forward = h.forward;
  step = omega (arith, ints, h.step);
  some = h.some;
  few = h.few;
}

zero_azimuth : IsAzimuthAxis (single_axis (pos 0))
zero_azimuth = record {
  first = omega (arith, ints);
  last = omega (arith, ints);
  forward = omega (arith, ints);
  step = omega (arith, ints);
  some = omega arith;
  few = omega arith;
}

one_scale : IsScaleAxis (single_axis (tenths 10))
one_scale = record {
  first = omega (arith, ints);
  last = omega (arith, ints);
  forward = omega (arith, ints);
  step = omega (arith, ints);
  some = omega arith;
  few = omega arith;
}

no_azimuth : (axis : Axis) → axis ≡ single_axis (pos 0) → IsAzimuthAxis axis
no_azimuth axis e = subst (λ a. IsAzimuthAxis a) (sym e) zero_azimuth

true_scale : (axis : Axis) → axis ≡ single_axis (tenths 10) → IsScaleAxis axis
true_scale axis e = subst (λ a. IsScaleAxis a) (sym e) one_scale

ranges_of_kind : (k : Kind) (f : Family) → IsOfKind k f → HasRanges f
ranges_of_kind Tm f h =
    record {
      lat = h.lat.range;
      lon = h.lon;
      azimuth = no_azimuth f.azimuth h.azimuth;
      scale = h.scale;
    }
ranges_of_kind Lambert f h =
    record {
      lat = h.lat.range;
      lon = h.lon.range;
      azimuth = no_azimuth f.azimuth h.azimuth;
      scale = h.scale;
    }
ranges_of_kind Hotine f h =
    record { lat = h.lat.range; lon = h.lon; azimuth = h.azimuth; scale = h.scale }
ranges_of_kind Lambert2 f h = record {
  lat = h.lat.range;
  lon = h.lon.range;
  azimuth = parallel_azimuth f.azimuth h.azimuth.range;
  scale = true_scale f.scale h.scale;
}

pub has_ranges : (f : Family) → IsValid f → HasRanges f
has_ranges f h = ranges_of_kind f.kind f h.kind

-- three axes of angles and one of scale factors
pub record HasAxes (f : Family) : Type 0 where
  pub lat : IsAngleAxis f.lat
  pub lon : IsAngleAxis f.lon
  pub azimuth : IsAngleAxis f.azimuth
  pub scale : IsScaleAxis f.scale

from_latitude : (axis : Axis) → IsLatitudeAxis axis → IsAngleAxis axis
from_latitude axis h = record {
  first = omega (arith, ints, h.first);
  last = omega (arith, ints, h.last);
  forward = h.forward;
  step = omega (arith, ints, h.step);
  some = h.some;
  few = h.few;
}

from_longitude : (axis : Axis) → IsLongitudeAxis axis → IsAngleAxis axis
from_longitude axis h = record {
  first = omega (arith, ints, h.first);
  last = omega (arith, ints, h.last);
  forward = h.forward;
  step = omega (arith, ints, h.step);
  some = h.some;
  few = h.few;
}

from_azimuth : (axis : Axis) → IsAzimuthAxis axis → IsAngleAxis axis
from_azimuth axis h = record {
  first = omega (arith, ints, h.first);
  last = omega (arith, ints, h.last);
  forward = h.forward;
  step = omega (arith, ints, h.step);
  some = h.some;
  few = h.few;
}

pub has_axes : (f : Family) → IsValid f → HasAxes f
has_axes f h =
    let ranges : HasRanges f = has_ranges f h in
    record {
      lat = from_latitude f.lat ranges.lat;
      lon = from_longitude f.lon ranges.lon;
      azimuth = from_azimuth f.azimuth ranges.azimuth;
      scale = ranges.scale;
    }

pub angle_number : (axis : Axis) → IsAngleAxis axis → IsNumberAxis axis
angle_number axis h = record {
  first = omega (arith, ints, h.first);
  last = omega (arith, ints, h.last);
  forward = h.forward;
  step = omega (arith, ints, h.step);
  some = h.some;
  few = h.few;
}

pub scale_number : (axis : Axis) → IsScaleAxis axis → IsNumberAxis axis
scale_number axis h = record {
  first = omega (arith, ints, h.first);
  last = omega (arith, ints, h.last);
  forward = h.forward;
  step = omega (arith, ints, h.step);
  some = h.some;
  few = h.few;
}

pub number_axis : (f : Family) (axis : AxisName) → HasAxes f → IsNumberAxis (axis_of axis f)
number_axis f Lat h = angle_number f.lat h.lat
number_axis f Lon h = angle_number f.lon h.lon
number_axis f Azimuth h = angle_number f.azimuth h.azimuth
number_axis f Scale h = scale_number f.scale h.scale

between : (low high : ℤ) (axis : Axis) (i : ℕ) → IsAxis low high axis → i < axis.count
    → IsBetween low high (value_at axis i)
between low high axis i h k =
    let within = value-within low high axis i h k in (within.above, within.below)

-- a value of an axis is in the range of all kinds
pub value_on : (f : Family) (axis : AxisName) (i : ℕ) → IsValid f → i < (axis_of axis f).count
    → IsValueOn axis (value_at (axis_of axis f) i)
value_on f Lat i h k = between _ _ f.lat i (has_ranges f h).lat k
value_on f Lon i h k = between _ _ f.lon i (has_ranges f h).lon k
value_on f Azimuth i h k = between _ _ f.azimuth i (has_ranges f h).azimuth k
value_on f Scale i h k = between _ _ f.scale i (has_ranges f h).scale k
