-- What the private functions of the reader speak of.
use Rattle.std.specs.Prelude.{ℕ, ◌+◌, ◌*◌, ◌≤◌, ◌≡◌, length, All, Result, Ok, Err}
use Rattle.ldp_zone.specs.Steps.{Progress, Step}
use Rattle.ldp_quantity.specs.Quantity.{IsLongitude}
use Rattle.ldp_zone.specs.Area.{IsNear, IsRing, point_count}
use Rattle.ldp_zone.specs.declared.spot.Spot.{Spot}
use Rattle.ldp_zone.specs.declared.spot.Spot.TheVariants as spots
use Rattle.ldp_zone.specs.declared.fault.ZoneFault.{ZoneFault}
use Rattle.ldp_zone.specs.declared.fault.ZoneFault.TheVariants as faults

-- an error but for want of memory is that of the definition
abbrev pub Fails : {A : Type 0} → ZoneFault → Result A ZoneFault → Type 0
Fails faults.Memory read = Unit {0}
Fails fault read = read ≡ Err fault

-- where the answer is good, the value left is that of the definition
abbrev pub Leaves : Result (Unit {0}) ZoneFault → Progress → Step → Type 0
Leaves (Ok done) new read = read ≡ Ok new
Leaves (Err fault) new read = Fails fault read

-- a point was begun whose second number is still to come
abbrev pub pending : Spot → ℕ
pending spots.Second = 1
pending _ = 0

-- what the reader keeps
pub record IsProgress (p : Progress) : Type 0 where
  pub each : All IsRing p.rings
  pub some : 4 * length p.rings ≤ point_count p.rings
  pub few : point_count p.rings + length p.ring + pending p.spot ≤ p.count
  pub most : p.count ≤ 10_000
  pub near : All IsNear p.ring
  pub longitude : IsLongitude p.x
