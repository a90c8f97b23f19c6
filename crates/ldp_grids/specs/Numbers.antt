-- The numbers of a family: quantities are TOML strings with a decimal number, counts are TOML
-- integers. A quantity is rounded half away from zero before it is compared. (Own choice of this
-- project.)
use Rattle.std.specs.Prelude.{ℕ, ℤ, pos, ◌*ℤ◌, int_le, nat_abs, List, Option, Some, None, Result}
use Rattle.std.specs.Prelude.{Ok, Err, if◌then◌else◌}
use Rattle.std.specs.Option.{ok_or}
use Rattle.toml.specs.Data.{Data, as_str, as_integer}
use Rattle.ldp_decimal.specs.Reading.{decimal_value}
use Rattle.ldp_quantity.specs.Between.{int_between}
use Rattle.ldp_quantity.specs.Results.{◌>>=◌}
use Rattle.ldp_design.specs.declared.family.Kind.{Kind}
use Rattle.ldp_design.specs.declared.key.Key.{Key}
use Rattle.ldp_grids.specs.declared.fault.Part.{Part}
use Rattle.ldp_grids.specs.declared.fault.Part.TheVariants.{Step, Count}
use Rattle.ldp_grids.specs.declared.fault.GridFault.{GridFault}
use Rattle.ldp_grids.specs.declared.fault.GridFault.TheVariants.{MissingKey, BadValue, OutOfRange}
use Rattle.ldp_grids.specs.declared.fault.GridFault.TheVariants.{StepNotPositive}
use Rattle.ldp_design.specs.KeyRanges.{range_of, is_in_range}

-- the value of a key that may not be left out
abbrev pub needed : ℕ → Key → Part → Option Data → Result Data GridFault
needed family key part found = ok_or found (MissingKey family key part)

-- the text of a value that is a string
abbrev pub text_of : ℕ → Key → Part → Data → Result (List ℕ) GridFault
text_of family key part given = ok_or (as_str given) (BadValue family key part)

-- the number, if the key may have it, else a fault
abbrev pub in_range : ℕ → Kind → Key → Part → ℤ → Result ℤ GridFault
in_range family kind key part n =
    if is_in_range (range_of key kind) n then Ok n else Err (OutOfRange family key part)

-- a number that the key may have, from a text that may have been no number
abbrev pub in_range_or_fault : ℕ → Kind → Key → Part → Option ℤ → Result ℤ GridFault
in_range_or_fault family kind key part None = Err (BadValue family key part)
in_range_or_fault family kind key part (Some n) = in_range family kind key part n

-- the number of a key's string, in the unit of the key, rounded half away from zero
unfoldable pub number_of : ℕ → Kind → Key → Part → Data → Result ℤ GridFault
number_of family kind key part given = text_of family key part given
    >>= λ text. in_range_or_fault family kind key part
    (decimal_value (range_of key kind).places text)

-- a step is above 0 and at most ten times the greatest value of the key
abbrev pub step_or_fault : ℕ → Kind → Key → Option ℤ → Result ℤ GridFault
step_or_fault family kind key None = Err (BadValue family key Step)
step_or_fault family kind key (Some n) =
    if int_le n (pos 0) then Err (StepNotPositive family key)
    else if int_le n (pos 10 *ℤ (range_of key kind).high) then Ok n
    else Err (OutOfRange family key Step)

-- the step of an axis table, in the unit of the key
unfoldable pub step_of : ℕ → Kind → Key → Data → Result ℤ GridFault
step_of family kind key given = text_of family key Step given
    >>= λ text. step_or_fault family kind key (decimal_value (range_of key kind).places text)

-- a count is from 1 to 100,000
unfoldable pub count_of : ℕ → Key → Data → Result ℕ GridFault
count_of family key given = ok_or (as_integer given) (BadValue family key Count)
    >>= λ n. if int_between (pos 1) (pos 100_000) n then Ok (nat_abs n)
    else Err (OutOfRange family key Count)
