-- The numbers of a point: the x and y coordinates of OGC 06-103r4, here longitude and latitude in
-- degrees, and a third that is dropped. (The faults are own choices of this project.)
use Rattle.std.specs.Prelude.{ℕ, ℤ, Result, Ok, Err, is_some, if◌then◌else◌}
use Rattle.ldp_decimal.specs.Reading.{decimal_value}
use Rattle.ldp_quantity.specs.Quantity.{longitude_of, latitude_of}
use Rattle.ldp_quantity.specs.declared.unfit.Unfit.{Unfit}
use Rattle.ldp_quantity.specs.declared.unfit.Unfit.TheVariants as unfits
use Rattle.ldp_tokens.specs.Tokens.{Token}
use Rattle.ldp_zone.specs.declared.fault.ZoneFault.{ZoneFault}
use Rattle.ldp_zone.specs.declared.fault.ZoneFault.TheVariants.{BadNumber, OutOfRange}

-- the fault of a number at a place
abbrev pub fault_at : ℕ → Unfit → ZoneFault
fault_at place unfits.NotANumber = BadNumber place
fault_at place unfits.OutOfRange = OutOfRange place

-- a number that may stand there, or its fault at this place
abbrev pub fit_or_fault : ℕ → Result ℤ Unfit → Result ℤ ZoneFault
fit_or_fault place (Ok n) = Ok n
fit_or_fault place (Err unfit) = Err (fault_at place unfit)

-- a number from -180 to 360, in units of 10^-12 degrees, or the fault of the token
unfoldable pub longitude : Token → Result ℤ ZoneFault
longitude token = fit_or_fault token.place (longitude_of token.bytes)

-- a number from -80 to 80, in units of 10^-12 degrees, or the fault of the token
unfoldable pub latitude : Token → Result ℤ ZoneFault
latitude token = fit_or_fault token.place (latitude_of token.bytes)

-- a height: a number of any size, which is dropped
unfoldable pub height : Token → Result (Unit {0}) ZoneFault
height token =
    if is_some (decimal_value 0 token.bytes) then Ok tt else Err (BadNumber token.place)
