-- The family of quantities that were read is valid, where its parallels do not cross the equator
-- and its designs are not too many.
use Rattle.std.proofs.Common.{◌≡◌, ℕ, ◌*◌, ◌^◌, ◌≤◌, ◌⊎◌, inl, inr, Bool, false, ◌&&◌, ◌||◌, ℤ, pos}
use Rattle.std.proofs.Common.{negsuc, neg_ℤ, unsigned_abs, int_lt, ◌≤ℤ◌, sym, ap, subst, arith}
use Rattle.std.proofs.lemmas.Bool.Decides.{nat_tests}
use Rattle.std.proofs.lemmas.Int.{ints}
use Rattle.ldp_design.specs.declared.axis.Axis.{Axis}
use Rattle.ldp_design.specs.declared.family.Kind.{Kind}
use Rattle.ldp_design.specs.declared.family.Kind.TheVariants.{Tm, Lambert, Hotine, Lambert2}
use Rattle.ldp_design.specs.Families.{IsAxis, IsOneValue, IsParallelAxis, IsFalseOrigin}
use Rattle.ldp_design.specs.Families.{single_axis, last_value}
use Rattle.ldp_quantity.specs.Quantity.{degrees}
use Rattle.ldp_design.specs.declared.key.Key.{Key}
use Rattle.ldp_design.specs.declared.key.Key.TheVariants as keys
use Rattle.ldp_grids.specs.declared.quantities.Quantities.{Quantities}
use Rattle.ldp_design.specs.declared.key_range.KeyRange.{KeyRange}
use Rattle.ldp_design.specs.KeyRanges.{range_of}
use Rattle.ldp_grids.specs.Families.{crosses}
use Rattle.ldp_grids.specs.Facts.{IsAxisIn, IsValueIn, AreQuantities, IsBounded, IsRead}
use Rattle.ldp_grids.specs.Facts.{family_from}
use Rattle.ldp_grids.proofs.Singles.{single_is_axis}

axis_in : (range : KeyRange) (axis : Axis) → IsAxisIn range axis → IsAxis range.low range.high axis
axis_in range axis h = record {
  first = h.first.low;
  last = h.last.high;
  forward = omega (arith, ints, h.forward);
  step = h.step;
  some = h.some;
  few = h.few;
}

value_in : (key : Key) (kind : Kind) (axis : Axis) → IsValueIn (range_of key kind) axis
    → IsOneValue (range_of key kind).low (range_of key kind).high axis
value_in key kind axis h = record {
  range = axis_in _ axis (single_is_axis key kind axis h);
  single = h.single;
}

not_above : (b : ℕ) → int_lt (pos 0) (pos b) ≡ false → 1 ≤ b → ⊥
not_above b apart above = grind (arith, ints, nat_tests)

-- two latitudes at least a degree from the equator, where not the first is south and the last north
same_side : (from last : ℤ) → 1 * 10 ^ 12 ≤ unsigned_abs from → 1 * 10 ^ 12 ≤ unsigned_abs last
    → (int_lt from (pos 0) && int_lt (pos 0) last) ≡ false
    → (degrees 1 ≤ℤ from) ⊎ (last ≤ℤ neg_ℤ (degrees 1))
same_side (pos a) last far near apart = inl (omega (arith, ints, far))
same_side (negsuc a) (negsuc b) far near apart = inr (omega (arith, ints, near))
same_side (negsuc a) (pos b) far near apart = absurd (not_above b apart (omega (arith, near)))

or_left : (a b : Bool) → (a || b) ≡ false → a ≡ false
or_left a b h = grind arith

or_right : (a b : Bool) → (a || b) ≡ false → b ≡ false
or_right a b h = grind arith

parallel : (kind : Kind) (axis : Axis) → IsAxisIn (range_of keys.Lat2 kind) axis
    → crosses axis ≡ false → IsParallelAxis axis
parallel kind axis h apart = record {
  range = axis_in _ axis h;
  side = same_side axis.from (last_value axis) h.first.least h.last.least apart;
}

low_bound : (key : Key) (kind : Kind) → negsuc 399_999_999_999_999 ≤ℤ (range_of key kind).low
low_bound keys.Top kind = omega arith
low_bound keys.Family kind = omega arith
low_bound keys.Kind kind = omega arith
low_bound keys.Lat kind = omega arith
low_bound keys.Lat2 kind = omega arith
low_bound keys.Lon kind = omega arith
low_bound keys.Azimuth kind = omega arith
low_bound keys.Scale kind = omega arith
low_bound keys.Origin kind = omega arith
low_bound keys.Easting kind = omega arith
low_bound keys.Northing kind = omega arith

high_bound : (key : Key) (kind : Kind) → (range_of key kind).high ≤ℤ pos 2_000_000_000_000_000
high_bound keys.Top kind = omega arith
high_bound keys.Family kind = omega arith
high_bound keys.Kind kind = omega arith
high_bound keys.Lat kind = omega arith
high_bound keys.Lat2 kind = omega arith
high_bound keys.Lon kind = omega arith
high_bound keys.Azimuth kind = omega arith
high_bound keys.Scale kind = omega arith
high_bound keys.Origin kind = omega arith
high_bound keys.Easting kind = omega arith
high_bound keys.Northing kind = omega arith

bounded : (key : Key) (kind : Kind) (axis : Axis)
    → IsAxisIn (range_of key kind) axis → IsBounded axis
bounded key kind axis h = record {
  low = omega (arith, ints, low_bound key kind, h.first.low);
  high = omega (arith, ints, high_bound key kind, h.first.high);
  forward = h.forward;
  step = omega (arith, ints, high_bound key kind, h.step);
  some = h.some;
  few = h.few;
}

bounded_value : (key : Key) (kind : Kind) (axis : Axis)
    → IsValueIn (range_of key kind) axis → IsBounded axis
bounded_value key kind axis h = bounded key kind axis (single_is_axis key kind axis h)

bounded_zero : (axis : Axis) → axis ≡ single_axis (pos 0) → IsBounded axis
bounded_zero axis same = subst IsBounded (sym same) record {
  low = omega (arith, ints);
  high = omega (arith, ints);
  forward = omega (arith, ints);
  step = omega (arith, ints);
  some = omega (arith, ints);
  few = omega (arith, ints);
}

false_origin : (axis : Axis) → IsValueIn (range_of keys.Easting Tm) axis → IsFalseOrigin axis.from
false_origin axis h = (h.first.low, h.first.high)

-- a family of quantities that were read
pub quantities_are_read : (kind : Kind) (q : Quantities)
    → AreQuantities kind q → IsRead (family_from kind q)
quantities_are_read Tm q h = record {
  lat = bounded_value keys.Lat Tm q.lat h.lat;
  third = bounded_zero q.azimuth h.azimuth;
  valid = λ apart few. record {
    kind = record {
      lat = value_in keys.Lat Tm q.lat h.lat;
      lon = axis_in _ q.lon h.lon;
      azimuth = h.azimuth;
      scale = axis_in _ q.scale h.scale;
      origin = ap (λ axis. axis.from) h.origin;
    };
    easting = false_origin q.easting h.easting;
    northing = false_origin q.northing h.northing;
    few = few;
  };
}
quantities_are_read Lambert q h = record {
  lat = bounded keys.Lat Lambert q.lat h.lat;
  third = bounded_zero q.azimuth h.azimuth;
  valid = λ apart few. record {
    kind = record {
      lat = parallel Lambert q.lat h.lat (or_left _ _ apart);
      lon = value_in keys.Lon Lambert q.lon h.lon;
      azimuth = h.azimuth;
      scale = axis_in _ q.scale h.scale;
      origin = ap (λ axis. axis.from) h.origin;
    };
    easting = false_origin q.easting h.easting;
    northing = false_origin q.northing h.northing;
    few = few;
  };
}
quantities_are_read Hotine q h = record {
  lat = bounded keys.Lat Hotine q.lat h.lat;
  third = bounded keys.Azimuth Hotine q.azimuth h.azimuth;
  valid = λ apart few. record {
    kind = record {
      lat = parallel Hotine q.lat h.lat (or_left _ _ apart);
      lon = axis_in _ q.lon h.lon;
      azimuth = axis_in _ q.azimuth h.azimuth;
      scale = axis_in _ q.scale h.scale;
      origin = ap (λ axis. axis.from) h.origin;
    };
    easting = false_origin q.easting h.easting;
    northing = false_origin q.northing h.northing;
    few = few;
  };
}
quantities_are_read Lambert2 q h = record {
  lat = bounded keys.Lat Lambert2 q.lat h.lat;
  third = bounded keys.Lat2 Lambert2 q.lat2 h.lat2;
  valid = λ apart few. record {
    kind = record {
      lat = parallel Lambert2 q.lat h.lat (or_left _ _ apart);
      lon = value_in keys.Lon Lambert2 q.lon h.lon;
      azimuth = parallel Lambert2 q.lat2 h.lat2 (or_right _ _ apart);
      scale = h.scale;
      origin = (h.origin.first.low, h.origin.first.high);
    };
    easting = false_origin q.easting h.easting;
    northing = false_origin q.northing h.northing;
    few = few;
  };
}
