-- The numbers that the keys of a family may have (own choice of this project).
use Rattle.std.specs.Prelude.{ℕ, ◌*◌, ◌^◌, ◌≤◌, Bool, ◌&&◌, nat_le, ℤ, pos, neg_ℤ, ◌≤ℤ◌}
use Rattle.std.specs.Prelude.{unsigned_abs}
use Rattle.ldp_quantity.specs.Between.{int_between}
use Rattle.ldp_quantity.specs.Quantity.{degrees, tenths}
use Rattle.ldp_design.specs.declared.family.Kind.{Kind}
use Rattle.ldp_design.specs.declared.key.Key.{Key}
use Rattle.ldp_design.specs.declared.key.Key.TheVariants as keys
use Rattle.ldp_design.specs.declared.key_range.KeyRange.{KeyRange}
use Rattle.ldp_design.specs.Kinds.{by_kind}
use Rattle.ldp_design.specs.Limits.{most_azimuth}

-- from low to high, in units of 10^-places
abbrev pub numbers : ℕ → ℤ → ℤ → KeyRange
numbers places low high = record { places = places; low = low; high = high; least = 0 }

-- from 80 degrees south to 80 degrees north, at least so many degrees from the equator
abbrev pub latitudes : ℕ → KeyRange
latitudes least = record {
  places = 12;
  low = neg_ℤ (degrees 80);
  high = degrees 80;
  least = least * 10 ^ 12;
}

-- how near the first latitude of a kind may be to the equator, in degrees
abbrev pub nearest_latitude : Kind → ℕ
nearest_latitude kind = by_kind 0 1 1 1 kind

-- the numbers that a key may have; what the keys without numbers have here is of no use
abbrev pub range_of : Key → Kind → KeyRange
range_of keys.Lat kind = latitudes (nearest_latitude kind)
range_of keys.Lat2 kind = latitudes 1
range_of keys.Lon kind = numbers 12 (neg_ℤ (degrees 180)) (degrees 360)
range_of keys.Azimuth kind = numbers 12 (neg_ℤ most_azimuth) most_azimuth
range_of keys.Scale kind = numbers 15 (tenths 5) (tenths 20)
range_of keys.Origin kind = latitudes 0
range_of keys.Easting kind = numbers 3 (neg_ℤ (pos (10 ^ 8 * 10 ^ 3))) (pos (10 ^ 8 * 10 ^ 3))
range_of keys.Northing kind = numbers 3 (neg_ℤ (pos (10 ^ 8 * 10 ^ 3))) (pos (10 ^ 8 * 10 ^ 3))
range_of keys.Top kind = numbers 0 (pos 0) (pos 1)
range_of keys.Family kind = numbers 0 (pos 0) (pos 1)
range_of keys.Kind kind = numbers 0 (pos 0) (pos 1)

-- the range has a number
abbrev pub is_in_range : KeyRange → ℤ → Bool
is_in_range range n = int_between range.low range.high n && nat_le range.least (unsigned_abs n)

-- the range has a number, as a fact
pub record IsInKeyRange (range : KeyRange) (n : ℤ) : Type 0 where
  pub low : range.low ≤ℤ n
  pub high : n ≤ℤ range.high
  pub least : range.least ≤ unsigned_abs n
