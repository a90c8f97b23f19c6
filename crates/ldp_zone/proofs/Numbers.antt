-- A text is a number of any size where its reading within some limit does not say that it is none.
use Rattle.std.proofs.Common.{◌≡◌, ℕ, Bool, true, false, nat_le, ℤ, Option, Some, None, is_some}
use Rattle.std.proofs.Common.{List, Result, Err, unsigned_abs, refl, sym}
use Rattle.ldp_decimal.specs.Reading.{decimal_value, decimal_of, within}
use Rattle.ldp_decimal.specs.declared.fault.NumFault.{NumFault}
use Rattle.ldp_decimal.specs.declared.fault.NumFault.TheVariants.{NotANumber}

abbrev is_number : Result ℤ NumFault → Bool
is_number (Err NotANumber) = false
is_number _ = true

some_by : (limit : ℕ) (z : ℤ) (small : Bool) → nat_le (unsigned_abs z) limit ≡ small
    → is_number (within limit (Some z)) ≡ true
some_by limit z true e = rw e refl
some_by limit z false e = rw e refl

number_by : (limit : ℕ) (number : Option ℤ) → is_number (within limit number) ≡ is_some number
number_by limit None = refl
number_by limit (Some z) = some_by limit z (nat_le (unsigned_abs z) limit) refl

pub is_a_number : (text : List ℕ) → is_some (decimal_value 0 text) ≡ is_number (decimal_of 0 0 text)
unfolding decimal_of
is_a_number text = sym (number_by 0 (decimal_value 0 text))
