-- An axis of one value beside the axes of several.
use Rattle.std.proofs.Common.{◌≡◌, ◌≤◌, ℤ, pos, ◌*ℤ◌, ◌≤ℤ◌, sym, subst, arith}
use Rattle.ldp_design.specs.declared.axis.Axis.{Axis}
use Rattle.ldp_design.specs.declared.family.Kind.{Kind}
use Rattle.ldp_design.specs.Families.{single_axis, last_value}
use Rattle.ldp_design.specs.declared.key.Key.{Key}
use Rattle.ldp_design.specs.declared.key.Key.TheVariants as keys
use Rattle.ldp_design.specs.declared.key_range.KeyRange.{KeyRange}
use Rattle.ldp_design.specs.KeyRanges.{range_of, IsInKeyRange}
use Rattle.ldp_grids.specs.Facts.{IsAxisIn, IsValueIn}

last_of_single : (v : ℤ) → last_value (single_axis v) ≡ v
last_of_single v = grind arith

-- the greatest number of a key is above 0
some_high : (key : Key) (kind : Kind) → pos 1 ≤ℤ (pos 10 *ℤ (range_of key kind).high)
some_high keys.Top kind = omega arith
some_high keys.Family kind = omega arith
some_high keys.Kind kind = omega arith
some_high keys.Lat kind = omega arith
some_high keys.Lat2 kind = omega arith
some_high keys.Lon kind = omega arith
some_high keys.Azimuth kind = omega arith
some_high keys.Scale kind = omega arith
some_high keys.Origin kind = omega arith
some_high keys.Easting kind = omega arith
some_high keys.Northing kind = omega arith

single_in : (range : KeyRange) (v : ℤ)
    → pos 1 ≤ℤ (pos 10 *ℤ range.high) → IsInKeyRange range v → IsAxisIn range (single_axis v)
single_in range v high h = record {
  first = h;
  last = subst (IsInKeyRange range) (sym (last_of_single v)) h;
  forward = omega arith;
  step = high;
  some = omega arith;
  few = omega arith;
}

-- one value is an axis
pub single_is_axis : (key : Key) (kind : Kind) (axis : Axis)
    → IsValueIn (range_of key kind) axis → IsAxisIn (range_of key kind) axis
single_is_axis key kind axis h =
    subst (IsAxisIn (range_of key kind)) (sym h.single)
    (single_in (range_of key kind) axis.from (some_high key kind) h.first)

-- an axis whose last value is in range
pub spaced_in : (range told : KeyRange) (axis : Axis) (last : ℤ)
    → IsInKeyRange range axis.from → pos 1 ≤ℤ axis.step
    → axis.step ≤ℤ (pos 10 *ℤ range.high) → 1 ≤ axis.count → axis.count ≤ 100_000
    → told ≡ range → last ≡ last_value axis → IsInKeyRange told last → IsAxisIn range axis
spaced_in range told axis last first forward step some few same ending h = record {
  first = first;
  last = rw (← same, ← ending) h;
  forward = forward;
  step = step;
  some = some;
  few = few;
}
