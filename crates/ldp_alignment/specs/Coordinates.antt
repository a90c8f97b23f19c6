-- The three numbers of a station: longitude and latitude in degrees, and the chainage in metres.
use Rattle.std.specs.Prelude.{ℕ, ℤ, pos, Result, Ok, Err}
use Rattle.ldp_quantity.specs.Between.{number_from_to}
use Rattle.ldp_quantity.specs.Quantity.{longitude_of, latitude_of}
use Rattle.ldp_quantity.specs.declared.unfit.Unfit.{Unfit}
use Rattle.ldp_quantity.specs.declared.unfit.Unfit.TheVariants as unfits
use Rattle.ldp_tokens.specs.Tokens.{Token}
use Rattle.ldp_heights.specs.Grid.{metres}
use Rattle.ldp_alignment.specs.declared.fault.LineFault.{LineFault}
use Rattle.ldp_alignment.specs.declared.fault.LineFault.TheVariants.{BadNumber, OutOfRange}

-- the fault of a number at a place
abbrev pub fault_at : ℕ → Unfit → LineFault
fault_at place unfits.NotANumber = BadNumber place
fault_at place unfits.OutOfRange = OutOfRange place

-- a number that may stand there, or its fault at this place
abbrev pub fit_or_fault : ℕ → Result ℤ Unfit → Result ℤ LineFault
fit_or_fault place (Ok n) = Ok n
fit_or_fault place (Err unfit) = Err (fault_at place unfit)

-- a number from -180 to 360, in units of 10^-12 degrees, or the fault of the token
unfoldable pub longitude : Token → Result ℤ LineFault
longitude token = fit_or_fault token.place (longitude_of token.bytes)

-- a number from -80 to 80, in units of 10^-12 degrees, or the fault of the token
unfoldable pub latitude : Token → Result ℤ LineFault
latitude token = fit_or_fault token.place (latitude_of token.bytes)

-- a number of metres from 0 to 1,000,000, in millimetres, or the fault of the token
unfoldable pub chainage : Token → Result ℤ LineFault
chainage token =
    fit_or_fault token.place (number_from_to 3 (pos 0) (metres 1_000_000) token.bytes)
