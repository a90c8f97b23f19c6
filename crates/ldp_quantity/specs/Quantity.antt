-- Coordinates and scale factors: their units and ranges. (Degrees of latitude, north positive, and
-- of longitude, east positive, as in ISO 6709; the ranges are own choices of this project.)
use Rattle.std.specs.Prelude.{ℕ, ◌*◌, ◌^◌, ℤ, pos, neg_ℤ, List, Result}
use Rattle.ldp_quantity.specs.Between.{IsBetween, number_from_to}
use Rattle.ldp_quantity.specs.declared.unfit.Unfit.{Unfit}

-- so many degrees, in units of 10^-12 degrees
abbrev pub degrees : ℕ → ℤ
degrees n = pos (n * 10 ^ 12)

-- so many tenths of a scale factor, in units of 10^-15
abbrev pub tenths : ℕ → ℤ
tenths n = pos (n * 10 ^ 14)

-- from 180 degrees west to 360 degrees east
abbrev pub IsLongitude : ℤ → Type 0
IsLongitude = IsBetween (neg_ℤ (degrees 180)) (degrees 360)

-- from 80 degrees south to 80 degrees north
abbrev pub IsLatitude : ℤ → Type 0
IsLatitude = IsBetween (neg_ℤ (degrees 80)) (degrees 80)

-- from 0.5 to 2
abbrev pub IsScale : ℤ → Type 0
IsScale = IsBetween (tenths 5) (tenths 20)

-- the longitude of a text in degrees, or why there is none
abbrev pub longitude_of : List ℕ → Result ℤ Unfit
longitude_of text = number_from_to 12 (neg_ℤ (degrees 180)) (degrees 360) text

-- the latitude of a text in degrees
abbrev pub latitude_of : List ℕ → Result ℤ Unfit
latitude_of text = number_from_to 12 (neg_ℤ (degrees 80)) (degrees 80) text

-- the scale factor of a text
abbrev pub scale_of : List ℕ → Result ℤ Unfit
scale_of text = number_from_to 15 (tenths 5) (tenths 20) text
