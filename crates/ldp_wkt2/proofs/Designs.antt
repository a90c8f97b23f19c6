-- The system of a design has a line.
use Rattle.std.proofs.Common.{◌≡◌, ℕ, ◌-◌, ◌<◌, ◌≤◌, ℤ, pos, negsuc, neg_ℤ}
use Rattle.std.proofs.Common.{◌+ℤ◌, ◌*ℤ◌, ◌≤ℤ◌, ◌<ℤ◌, unsigned_abs}
use Rattle.std.proofs.Common.{inl, inr, IsTrue, ap, ◌∙◌, arith}
use Rattle.std.proofs.Math.Nat.{mul-le-mul_right}
use Rattle.std.proofs.lemmas.Int.{ints}
use Rattle.ldp_quantity.specs.Quantity.{degrees, tenths}
use Rattle.ldp_quantity.specs.Between.{IsBetween}
use Rattle.ldp_design.specs.declared.axis.Axis.{Axis}
use Rattle.ldp_design.specs.declared.design.Design.{Design}
use Rattle.ldp_design.specs.declared.family.Family.{Family}
use Rattle.ldp_design.specs.declared.family.Kind.{Kind}
use Rattle.ldp_design.specs.declared.family.Kind.TheVariants.{Tm, Lambert, Hotine, Lambert2}
use Rattle.ldp_design.specs.Families.{value_at, last_value, single_axis, IsAxis}
use Rattle.ldp_design.specs.Families.{IsParallelAxis, IsFalseOrigin, IsOfKind, IsValid}
use Rattle.ldp_design.specs.Designs.{IsDesignOf}
use Rattle.ldp_design.specs.declared.key.Key.TheVariants as keys
use Rattle.ldp_design.specs.declared.key_range.KeyRange.{KeyRange}
use Rattle.ldp_design.specs.KeyRanges.{numbers, latitudes, is_in_range}
use Rattle.ldp_wkt2.proofs.Allowed.{lies_in}
use Rattle.ldp_wkt2.specs.Values.{IsCrs, IsThird, IsScaleOf, IsOriginOf, IsAllowed, crs_at}

in_range : (range : KeyRange) (z : ℤ) → range.low ≤ℤ z → z ≤ℤ range.high
    → range.least ≤ unsigned_abs z → IsTrue (is_in_range range z)
in_range range z low high least = lies_in range z record { low = low; high = high; least = least }

-- more steps, where a step goes up
steps_le : (i j : ℕ) (s : ℤ) → pos 0 <ℤ s → i ≤ j → (pos i *ℤ s) ≤ℤ (pos j *ℤ s)
steps_le i j (pos c) h k = omega (arith, ints, mul-le-mul_right {m = i} {n = j} c k)
steps_le i j (negsuc c) h k = absurd (omega (arith, ints))

first_value : (axis : Axis) → value_at axis 0 ≡ axis.from
first_value axis = at axis.step
  where
    at : (s : ℤ) → axis.from +ℤ (pos 0 *ℤ s) ≡ axis.from
    at (pos c) = omega (arith, ints)
    at (negsuc c) = omega (arith, ints)

-- a value lies between the first and the last one
above_first : (low high : ℤ) (axis : Axis) (i : ℕ) → IsAxis low high axis
    → axis.from ≤ℤ value_at axis i
above_first low high axis i h =
    omega (arith, ints, first_value axis, steps_le 0 i axis.step h.forward (omega arith))

below_last : (low high : ℤ) (axis : Axis) (i : ℕ) → IsAxis low high axis → i < axis.count
    → value_at axis i ≤ℤ last_value axis
below_last low high axis i h k =
    omega (arith, ints, steps_le i (axis.count - 1) axis.step h.forward (omega arith))

between : (low high : ℤ) (axis : Axis) (i : ℕ) → IsAxis low high axis → i < axis.count
    → IsBetween low high (value_at axis i)
between low high axis i h k = (
  omega (arith, ints, above_first low high axis i h, h.first),
  omega (arith, ints, below_last low high axis i h k, h.last),
)

number : (places : ℕ) (low high : ℤ) (axis : Axis) (i : ℕ) → IsAxis low high axis
    → i < axis.count → IsTrue (is_in_range (numbers places low high) (value_at axis i))
number places low high axis i h k =
    let is = between low high axis i h k in
    in_range (numbers places low high) (value_at axis i) is.0 is.1 (omega arith)

latitude : (axis : Axis) (i : ℕ) → IsAxis (neg_ℤ (degrees 80)) (degrees 80) axis
    → i < axis.count → IsTrue (is_in_range (latitudes 0) (value_at axis i))
latitude axis i h k =
    let is = between (neg_ℤ (degrees 80)) (degrees 80) axis i h k in
    in_range (latitudes 0) (value_at axis i) is.0 is.1 (omega arith)

-- a parallel stays at least one degree from the equator
one_degree : (axis : Axis) (i : ℕ) → IsParallelAxis axis → i < axis.count
    → 1000000000000 ≤ unsigned_abs (value_at axis i)
one_degree axis i h k =
    let first = above_first (neg_ℤ (degrees 80)) (degrees 80) axis i h.range in
    let last = below_last (neg_ℤ (degrees 80)) (degrees 80) axis i h.range k in
    elim h.side [
      | inl north ↦ omega (arith, ints, north, first)
      | inr south ↦ omega (arith, ints, south, last)
    ]

parallel : (axis : Axis) (i : ℕ) → IsParallelAxis axis → i < axis.count
    → IsTrue (is_in_range (latitudes 1) (value_at axis i))
parallel axis i h k =
    let is = between (neg_ℤ (degrees 80)) (degrees 80) axis i h.range k in
    in_range (latitudes 1) (value_at axis i) is.0 is.1 (one_degree axis i h k)

-- the value of an axis of one value
single : (axis : Axis) (z : ℤ) (i : ℕ) → axis ≡ single_axis z → i < axis.count
    → value_at axis i ≡ z
single axis z i e k =
    let none : i ≡ 0 = omega (arith, ap (λ (a : Axis). a.count) e) in
    ap (value_at axis) none ∙ (first_value axis ∙ ap (λ (a : Axis). a.from) e)

third : (k : Kind) (f : Family) (d : Design) → IsOfKind k f → IsDesignOf f d
    → IsThird k (value_at f.azimuth d.azimuth)
third Tm f d h w = single f.azimuth (pos 0) d.azimuth h.azimuth w.azimuth
third Lambert f d h w = single f.azimuth (pos 0) d.azimuth h.azimuth w.azimuth
third Hotine f d h w =
    number 12 (neg_ℤ (degrees 85)) (degrees 85) f.azimuth d.azimuth h.azimuth w.azimuth
third Lambert2 f d h w = parallel f.azimuth d.azimuth h.azimuth w.azimuth

scale_is : (k : Kind) (f : Family) (d : Design) → IsOfKind k f → IsDesignOf f d
    → IsScaleOf k (value_at f.scale d.scale)
scale_is Tm f d h w = number 15 (tenths 5) (tenths 20) f.scale d.scale h.scale w.scale
scale_is Lambert f d h w = number 15 (tenths 5) (tenths 20) f.scale d.scale h.scale w.scale
scale_is Hotine f d h w = number 15 (tenths 5) (tenths 20) f.scale d.scale h.scale w.scale
scale_is Lambert2 f d h w = single f.scale (tenths 10) d.scale h.scale w.scale

origin_is : (k : Kind) (f : Family) → IsOfKind k f → IsOriginOf k f.origin
origin_is Tm f h = h.origin
origin_is Lambert f h = h.origin
origin_is Hotine f h = h.origin
origin_is Lambert2 f h = in_range (latitudes 0) f.origin h.origin.0 h.origin.1 (omega arith)

lat_is : (k : Kind) (f : Family) (d : Design) → IsOfKind k f → IsDesignOf f d
    → IsAllowed keys.Lat k (value_at f.lat d.lat)
lat_is Tm f d h w = latitude f.lat d.lat h.lat.range w.lat
lat_is Lambert f d h w = parallel f.lat d.lat h.lat w.lat
lat_is Hotine f d h w = parallel f.lat d.lat h.lat w.lat
lat_is Lambert2 f d h w = parallel f.lat d.lat h.lat w.lat

lon_is : (k : Kind) (f : Family) (d : Design) → IsOfKind k f → IsDesignOf f d
    → IsAllowed keys.Lon k (value_at f.lon d.lon)
lon_is Tm f d h w = number 12 (neg_ℤ (degrees 180)) (degrees 360) f.lon d.lon h.lon w.lon
lon_is Lambert f d h w =
    number 12 (neg_ℤ (degrees 180)) (degrees 360) f.lon d.lon h.lon.range w.lon
lon_is Hotine f d h w = number 12 (neg_ℤ (degrees 180)) (degrees 360) f.lon d.lon h.lon w.lon
lon_is Lambert2 f d h w =
    number 12 (neg_ℤ (degrees 180)) (degrees 360) f.lon d.lon h.lon.range w.lon

false_origin : (z : ℤ) → IsFalseOrigin z
    → IsTrue (is_in_range (numbers 3 (neg_ℤ (pos 100000000000)) (pos 100000000000)) z)
false_origin z h =
    in_range (numbers 3 (neg_ℤ (pos 100000000000)) (pos 100000000000)) z h.0 h.1 (omega arith)

pub crs_is : (f : Family) (d : Design) → IsValid f → IsDesignOf f d → IsCrs (crs_at f d)
crs_is f d h w = record {
  lat = lat_is f.kind f d h.kind w;
  lon = lon_is f.kind f d h.kind w;
  azimuth = third f.kind f d h.kind w;
  scale = scale_is f.kind f d h.kind w;
  origin = origin_is f.kind f h.kind;
  easting = false_origin f.easting h.easting;
  northing = false_origin f.northing h.northing;
}
