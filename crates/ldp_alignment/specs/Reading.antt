-- The line of a text: its numbers, parted by white space, are read one after another, three for
-- each station. The first fault from left to right is the answer. (A format of this project.)
use Rattle.std.specs.Prelude.{ℕ, nat_lt, nat_le, ℤ, pos, int_lt, List, [], ◌∷◌, ◌++◌, length}
use Rattle.std.specs.Prelude.{Option, Some, None, Result, Ok, Err, if◌then◌else◌}
use Rattle.ldp_tokens.specs.Tokens.{Token, tokens_of}
use Rattle.ldp_quantity.specs.Results.{◌>>=◌}
use Rattle.ldp_alignment.specs.Coordinates.{longitude, latitude, chainage}
use Rattle.ldp_alignment.specs.Line.{most_stations}
use Rattle.ldp_alignment.specs.declared.station.Station.{Station}
use Rattle.ldp_alignment.specs.declared.fault.LineFault.{LineFault}
use Rattle.ldp_alignment.specs.declared.fault.LineFault.TheVariants.{TooMany, Backward}
use Rattle.ldp_alignment.specs.declared.fault.LineFault.TheVariants.{Unfinished, TooFew}

-- what was read so far: the whole stations, the chainage of the last (0 before the first), and what
-- was read of the next
pub record Progress : Type 0 where
  pub stations : List Station
  pub last : ℤ
  pub x : Option ℤ
  pub y : Option ℤ

-- what was read with a token more, or the fault
abbrev pub Step : Type 0
Step = Result Progress LineFault

-- nothing was read
abbrev pub begin : Progress
begin = record { stations = []; last = pos 0; x = None; y = None }

-- the longitude of a station behind others, where there is room for one more
abbrev pub longitude_behind : List Station → Token → Result ℤ LineFault
longitude_behind stations token =
    if nat_le most_stations (length stations) then Err TooMany else longitude token

-- a station begins with its longitude
unfoldable pub first : Progress → Token → Step
first p token = longitude_behind p.stations token >>= λ x. Ok record p { x = Some x }

-- the latitude of a station
unfoldable pub second : Progress → Token → Step
second p token = latitude token >>= λ y. Ok record p { y = Some y }

-- a station read without its height
abbrev pub station_read : ℤ → ℤ → ℤ → Station
station_read x y along = record { x = x; y = y; mm = pos 0; chainage = along }

-- a whole station more, unless its chainage is below the one before
abbrev pub with_station : Progress → ℤ → ℤ → ℤ → Step
with_station p x y along =
    if int_lt along p.last then Err (Backward (length p.stations))
    else Ok record {
      stations = p.stations ++ station_read x y along ∷ [];
      last = along;
      x = None;
      y = None;
    }

-- the chainage of a station whose longitude and latitude were read
unfoldable pub third : ℤ → ℤ → Progress → Token → Step
third x y p token = chainage token >>= λ along. with_station p x y along

-- what is read of a token, by what was read of the station before it
abbrev pub step_by : Option ℤ → Option ℤ → Progress → Token → Step
step_by None y p token = first p token
step_by (Some x) None p token = second p token
step_by (Some x) (Some y) p token = third x y p token

-- one token more
unfoldable pub step : Progress → Token → Step
step p token = step_by p.x p.y p token

-- two stations or more
abbrev pub enough : List Station → Result (List Station) LineFault
enough stations =
    if nat_lt (length stations) 2 then Err (TooFew (length stations)) else Ok stations

-- at the end of a text of so many bytes, where this was read of a station more
abbrev pub end_by : ℕ → Option ℤ → List Station → Result (List Station) LineFault
end_by end (Some x) stations = Err (Unfinished end)
end_by end None stations = enough stations

-- the stations, where the text of so many bytes ends
unfoldable pub finished : ℕ → Progress → Result (List Station) LineFault
finished end p = end_by end p.x p.stations

-- the stations of the tokens that are left, in a text of so many bytes
unfoldable pub stations_from : ℕ → Progress → List Token → Result (List Station) LineFault
stations_from end p [] = finished end p
stations_from end p (token ∷ tokens) = step p token >>= λ next. stations_from end next tokens

-- the line of a text, or its first fault
unfoldable pub line_of : List ℕ → Result (List Station) LineFault
line_of text = stations_from (length text) begin (tokens_of [] text)
