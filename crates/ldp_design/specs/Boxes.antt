-- Boxes: the designs of one family whose index lies in the span of each axis.
use Rattle.std.specs.Prelude.{◌≡◌, ℕ, suc, ◌-◌, ◌*◌, ◌<◌, ◌≤◌, ◌==◌, ◌&&◌, Bool, List, Option}
use Rattle.std.specs.Prelude.{Some, option_map}
use Rattle.ldp_design.specs.declared.axis.AxisName.{AxisName}
use Rattle.ldp_design.specs.declared.axis.AxisName.TheVariants.{Lat, Lon, Azimuth, Scale}
use Rattle.ldp_design.specs.declared.family.Family.{Family}
use Rattle.ldp_design.specs.declared.design.Design.{Design}
use Rattle.ldp_design.specs.declared.design_box.Span.{Span}
use Rattle.ldp_design.specs.declared.design_box.DesignBox.{DesignBox}
use Rattle.ldp_design.specs.Families.{family_of}
use Rattle.ldp_design.specs.Designs.{axis_of, index_of}

-- the first and the last index of a box on this axis
abbrev pub span_of : AxisName → DesignBox → Span
span_of Lat b = b.lat
span_of Lon b = b.lon
span_of Azimuth b = b.azimuth
span_of Scale b = b.scale

-- the box with another span on one axis
abbrev pub with_span : AxisName → Span → DesignBox → DesignBox
with_span Lat span b = record b { lat = span }
with_span Lon span b = record b { lon = span }
with_span Azimuth span b = record b { azimuth = span }
with_span Scale span b = record b { scale = span }

-- a design of a box
pub record IsIn (d : Design) (b : DesignBox) : Type 0 where
  pub family : d.family ≡ b.family
  pub low : (axis : AxisName) → (span_of axis b).lo ≤ index_of axis d
  pub high : (axis : AxisName) → index_of axis d ≤ (span_of axis b).hi

-- a box of a family: no span is empty, and none goes past the axis
pub record IsBoxOf (f : Family) (b : DesignBox) : Type 0 where
  pub some : (axis : AxisName) → (span_of axis b).lo ≤ (span_of axis b).hi
  pub within : (axis : AxisName) → (span_of axis b).hi < (axis_of axis f).count

-- a box that lies in its family
pub record LiesIn (families : List Family) (b : DesignBox) : Type 0 where
  pub family : Family
  pub found : family_of families b.family ≡ Some family
  pub within : IsBoxOf family b

-- all indices of an axis
abbrev pub whole_span : ℕ → Span
whole_span count = record { lo = 0; hi = count - 1 }

-- all designs of a family, under its number
abbrev pub whole_box : ℕ → Family → DesignBox
whole_box number f = record {
  family = number;
  lat = whole_span f.lat.count;
  lon = whole_span f.lon.count;
  azimuth = whole_span f.azimuth.count;
  scale = whole_span f.scale.count;
}

-- the whole of the family with this number
abbrev pub whole_of : List Family → ℕ → Option DesignBox
whole_of families number = option_map (whole_box number) (family_of families number)

-- a box of one design
pub record IsSingle (b : DesignBox) : Type 0 where
  pub one : (axis : AxisName) → (span_of axis b).lo ≡ (span_of axis b).hi

-- the test whether a box has one design
abbrev pub is_single : DesignBox → Bool
is_single b =
    (b.lat.lo == b.lat.hi && b.lon.lo == b.lon.hi)
    && (b.azimuth.lo == b.azimuth.hi && b.scale.lo == b.scale.hi)

-- the design with the low index of each axis
abbrev pub first_of : DesignBox → Design
first_of b = record {
  family = b.family;
  lat = b.lat.lo;
  lon = b.lon.lo;
  azimuth = b.azimuth.lo;
  scale = b.scale.lo;
}

-- the design with the high index of each axis
abbrev pub last_of : DesignBox → Design
last_of b = record {
  family = b.family;
  lat = b.lat.hi;
  lon = b.lon.hi;
  azimuth = b.azimuth.hi;
  scale = b.scale.hi;
}

-- the number of indices of a span past its first
abbrev pub span_width : Span → ℕ
span_width span = span.hi - span.lo

-- the number of designs of a box
unfoldable pub size : DesignBox → ℕ
size b =
    suc (span_width b.lat) * suc (span_width b.lon) * suc (span_width b.azimuth)
    * suc (span_width b.scale)
