-- A line with the height of the grid at each station.
use Rattle.std.specs.Prelude.{ℕ, ℤ, List, [], ◌∷◌, ◌++◌, length, Option, Some, None, Result, Ok, Err}
use Rattle.ldp_quantity.specs.Results.{◌>>=◌}
use Rattle.ldp_heights.specs.Grid.{HeightGrid}
use Rattle.ldp_alignment.specs.Heights.{height_at}
use Rattle.ldp_alignment.specs.declared.station.Station.{Station}
use Rattle.ldp_alignment.specs.declared.place_fault.PlaceFault.{PlaceFault}
use Rattle.ldp_alignment.specs.declared.place_fault.PlaceFault.TheVariants.{NoHeight}

-- a station with its height, or the fault of its number where there is none
abbrev pub station_with : ℕ → Station → Option ℤ → Result Station PlaceFault
station_with number station None = Err (NoHeight number)
station_with number station (Some mm) = Ok record station { mm = mm }

-- the stations that have their heights, and behind them these with theirs, each in its turn
unfoldable pub placed_onto : HeightGrid → List Station → List Station
    → Result (List Station) PlaceFault
placed_onto grid done [] = Ok done
placed_onto grid done (station ∷ stations) =
    station_with (length done) station (height_at grid station.x station.y)
    >>= λ next. placed_onto grid (done ++ next ∷ []) stations

-- the stations with their heights, or the first that has none; stations are numbered from 0
unfoldable pub placed : HeightGrid → List Station → Result (List Station) PlaceFault
placed grid stations = placed_onto grid [] stations
