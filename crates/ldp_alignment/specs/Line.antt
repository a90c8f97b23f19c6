-- What the stations of a line keep. (Chainage is the distance along the line from its start, as in
-- the survey of roads; the ranges are own choices of this project.)
use Rattle.std.specs.Prelude.{ℕ, ◌≤◌, ℤ, pos, ◌≤ℤ◌, neg_ℤ, List, [], ◌∷◌, length, All}
use Rattle.ldp_quantity.specs.Between.{IsBetween}
use Rattle.ldp_quantity.specs.Quantity.{IsLongitude, IsLatitude}
use Rattle.ldp_heights.specs.Grid.{metres}
use Rattle.ldp_alignment.specs.declared.station.Station.{Station}

-- the most stations of a line
abbrev pub most_stations : ℕ
most_stations = 100_000

-- a chainage from 0 to 1,000,000 m, in millimetres
abbrev pub IsChainage : ℤ → Type 0
IsChainage = IsBetween (pos 0) (metres 1_000_000)

-- each number of a station is in its range; a height is at most 100,000 m in absolute value
pub record IsStation (station : Station) : Type 0 where
  pub x : IsLongitude station.x
  pub y : IsLatitude station.y
  pub mm : IsBetween (neg_ℤ (metres 100_000)) (metres 100_000) station.mm
  pub chainage : IsChainage station.chainage

-- no chainage is below the one before it, nor the first below this one
abbrev pub AreForward : ℤ → List Station → Type 0
AreForward last [] = Unit {0}
AreForward last (station ∷ stations) =
    (last ≤ℤ station.chainage) × AreForward station.chainage stations

-- a line has 2 to 100,000 stations, each in its ranges, and none of a chainage below the one before
pub record IsLine (stations : List Station) : Type 0 where
  pub some : 2 ≤ length stations
  pub few : length stations ≤ most_stations
  pub each : All IsStation stations
  pub forward : AreForward (pos 0) stations
