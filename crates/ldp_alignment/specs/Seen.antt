-- What the private functions of the reader speak of.
use Rattle.std.specs.Prelude.{◌≤◌, ◌≡◌, ℤ, pos, List, [], ◌∷◌, length, All, IsSome, IfSome}
use Rattle.std.specs.Prelude.{Result, Ok, Err}
use Rattle.ldp_quantity.specs.Quantity.{IsLongitude, IsLatitude}
use Rattle.ldp_alignment.specs.Line.{IsStation, IsChainage, AreForward, most_stations}
use Rattle.ldp_alignment.specs.Reading.{Progress, Step}
use Rattle.ldp_alignment.specs.declared.station.Station.{Station}
use Rattle.ldp_alignment.specs.declared.fault.LineFault.{LineFault}
use Rattle.ldp_alignment.specs.declared.fault.LineFault.TheVariants as faults

-- an error but for want of memory is that of the definition
abbrev pub Fails : {A : Type 0} → LineFault → Result A LineFault → Type 0
Fails faults.Memory read = Unit {0}
Fails fault read = read ≡ Err fault

-- where the answer is good, the value left is that of the definition
abbrev pub Leaves : Result (Unit {0}) LineFault → Progress → Step → Type 0
Leaves (Ok done) new read = read ≡ Ok new
Leaves (Err fault) new read = Fails fault read

-- the chainage of the last station, or this one where there is none
abbrev pub last_of : ℤ → List Station → ℤ
last_of last [] = last
last_of last (station ∷ stations) = last_of station.chainage stations

-- what the reader keeps
pub record IsProgress (p : Progress) : Type 0 where
  pub few : length p.stations ≤ most_stations
  pub room : IsSome p.x → length p.stations ≤ 99_999
  pub each : All IsStation p.stations
  pub forward : AreForward (pos 0) p.stations
  pub last : p.last ≡ last_of (pos 0) p.stations
  pub range : IsChainage p.last
  pub x : IfSome p.x IsLongitude
  pub y : IfSome p.y IsLatitude
