-- Values in the ranges of their keys.
use Rattle.std.proofs.Common.{◌≡◌, ℕ, ◌≤◌, lit≤, nat_le, ℤ, pos, negsuc, ◌≤ℤ◌, unsigned_abs}
use Rattle.std.proofs.Common.{Bool, true, false, ◌&&◌, IsTrue, refl, arith}
use Rattle.std.proofs.Common.{rules}
use Rattle.std.specs.Prelude.{int_le}
use Rattle.std.proofs.lemmas.Bool.Decides.{nat_tests}
use Rattle.std.proofs.lemmas.Int.{ints}
use Rattle.ldp_quantity.specs.Between.{int_between}
use Rattle.ldp_design.specs.declared.family.Kind.{Kind}
use Rattle.ldp_design.specs.declared.family.Kind.TheVariants.{Tm, Lambert, Hotine, Lambert2}
use Rattle.ldp_design.specs.declared.key.Key.{Key}
use Rattle.ldp_design.specs.declared.key.Key.TheVariants as keys
use Rattle.ldp_design.specs.declared.key_range.KeyRange.{KeyRange}
use Rattle.ldp_design.specs.KeyRanges.{range_of, is_in_range}
use Rattle.ldp_wkt2.specs.declared.crs.Crs.{Crs}
use Rattle.ldp_wkt2.specs.Values.{IsAllowed, IsCrs, IsThird, IsScaleOf, IsOriginOf, value_of}

pub both : (a b : Bool) → (a && b) ≡ true → (a ≡ true) × (b ≡ true)
both true b e = (refl, e)
both false b e = absurd cc

int_le_is : (a b : ℤ) → int_le a b ≡ true → a ≤ℤ b
int_le_is a b e = search (ints, rules)

int_le_yes : (a b : ℤ) → a ≤ℤ b → int_le a b ≡ true
int_le_yes a b h = search (ints, rules)

pub le_is : (m n : ℕ) → nat_le m n ≡ true → m ≤ n
le_is m n e = grind (arith, nat_tests)

pub le_yes : (m n : ℕ) → m ≤ n → nat_le m n ≡ true
le_yes m n h = grind (arith, nat_tests)

-- a number of a range
pub record Lies (range : KeyRange) (z : ℤ) : Type 0 where
  pub low : range.low ≤ℤ z
  pub high : z ≤ℤ range.high
  pub least : range.least ≤ unsigned_abs z

pub lies_in : (range : KeyRange) (z : ℤ) → Lies range z → IsTrue (is_in_range range z)
lies_in range z h =
    rw (
      int_le_yes range.low z h.low,
      int_le_yes z range.high h.high,
      le_yes range.least (unsigned_abs z) h.least,
    ) refl

pub lies : (range : KeyRange) (z : ℤ) → IsTrue (is_in_range range z) → Lies range z
lies range z h =
    let all = both (int_between range.low range.high z) (nat_le range.least (unsigned_abs z))
    h in
    let ends = both (int_le range.low z) (int_le z range.high) all.0 in
    record {
      low = int_le_is range.low z ends.0;
      high = int_le_is z range.high ends.1;
      least = le_is range.least (unsigned_abs z) all.1;
    }

-- the range of each key is narrow
pub record IsNarrow (range : KeyRange) : Type 0 where
  pub places : range.places ≤ 15
  pub low : negsuc 1999999999999999 ≤ℤ range.low
  pub high : range.high ≤ℤ pos 2000000000000000

pub narrow : (key : Key) (kind : Kind) → IsNarrow (range_of key kind)
narrow keys.Lat kind =
    record { places = lit≤ tt; low = record { le = tt }; high = record { le = tt } }
narrow keys.Lat2 kind =
    record { places = lit≤ tt; low = record { le = tt }; high = record { le = tt } }
narrow keys.Lon kind =
    record { places = lit≤ tt; low = record { le = tt }; high = record { le = tt } }
narrow keys.Azimuth kind =
    record { places = lit≤ tt; low = record { le = tt }; high = record { le = tt } }
narrow keys.Scale kind =
    record { places = lit≤ tt; low = record { le = tt }; high = record { le = tt } }
narrow keys.Origin kind =
    record { places = lit≤ tt; low = record { le = tt }; high = record { le = tt } }
narrow keys.Easting kind =
    record { places = lit≤ tt; low = record { le = tt }; high = record { le = tt } }
narrow keys.Northing kind =
    record { places = lit≤ tt; low = record { le = tt }; high = record { le = tt } }
narrow _ kind =
    record { places = lit≤ tt; low = record { le = tt }; high = record { le = tt } }

small_in : (range : KeyRange) (z : ℤ) → IsNarrow range → Lies range z
    → unsigned_abs z ≤ 2000000000000000
small_in range z n h = omega (arith, ints, n.low, n.high, h.low, h.high)

pub small : (key : Key) (kind : Kind) (z : ℤ) → IsAllowed key kind z
    → unsigned_abs z ≤ 2000000000000000
small key kind z h = small_in (range_of key kind) z (narrow key kind) (lies (range_of key kind) z h)

small_zero : (z : ℤ) → z ≡ pos 0 → unsigned_abs z ≤ 2000000000000000
small_zero z e = omega (arith, ints, e)

small_third : (k : Kind) (z : ℤ) → IsThird k z → unsigned_abs z ≤ 2000000000000000
small_third Tm z h = small_zero z h
small_third Lambert z h = small_zero z h
small_third Hotine z h = small keys.Azimuth Hotine z h
small_third Lambert2 z h = small keys.Lat2 Lambert2 z h

small_scale : (k : Kind) (z : ℤ) → IsScaleOf k z → unsigned_abs z ≤ 2000000000000000
small_scale Tm z h = small keys.Scale Tm z h
small_scale Lambert z h = small keys.Scale Lambert z h
small_scale Hotine z h = small keys.Scale Hotine z h
small_scale Lambert2 z h = omega (arith, ints, h)

small_origin : (k : Kind) (z : ℤ) → IsOriginOf k z → unsigned_abs z ≤ 2000000000000000
small_origin Tm z h = small_zero z h
small_origin Lambert z h = small_zero z h
small_origin Hotine z h = small_zero z h
small_origin Lambert2 z h = small keys.Origin Lambert2 z h

pub small_value : (key : Key) (c : Crs) → IsCrs c
    → unsigned_abs (value_of key c) ≤ 2000000000000000
small_value keys.Lat c h = small keys.Lat c.kind c.lat h.lat
small_value keys.Lat2 c h = small_third c.kind c.azimuth h.azimuth
small_value keys.Lon c h = small keys.Lon c.kind c.lon h.lon
small_value keys.Azimuth c h = small_third c.kind c.azimuth h.azimuth
small_value keys.Scale c h = small_scale c.kind c.scale h.scale
small_value keys.Origin c h = small_origin c.kind c.origin h.origin
small_value keys.Easting c h = small keys.Easting c.kind c.easting h.easting
small_value keys.Northing c h = small keys.Northing c.kind c.northing h.northing
small_value _ c h = lit≤ tt
