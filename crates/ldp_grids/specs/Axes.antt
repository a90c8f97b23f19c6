-- The axes of a family: one value, or a table that says the first value, the step between values
-- and how many there are. (Own choice of this project.)
use Rattle.std.specs.Prelude.{ℕ, Bool, ◌||◌, ℤ, pos, List, Option, Some, None, Result, Ok, Err}
use Rattle.std.specs.Prelude.{if◌then◌else◌, codes, bytes_eq}
use Rattle.std.specs.List.{list_all}
use Rattle.toml.specs.Data.{Data, Members, get_member, as_table}
use Rattle.ldp_quantity.specs.Quantity.{tenths}
use Rattle.ldp_quantity.specs.Results.{◌>>=◌}
use Rattle.ldp_design.specs.declared.axis.Axis.{Axis}
use Rattle.ldp_design.specs.declared.family.Kind.{Kind}
use Rattle.ldp_design.specs.Families.{single_axis, last_value}
use Rattle.ldp_grids.specs.declared.column.Form.{Form}
use Rattle.ldp_grids.specs.declared.column.Form.TheVariants as forms
use Rattle.ldp_design.specs.declared.key.Key.{Key}
use Rattle.ldp_design.specs.declared.key.Key.TheVariants as keys
use Rattle.ldp_grids.specs.declared.fault.Part.TheVariants.{Whole, From, Step, Count}
use Rattle.ldp_grids.specs.declared.fault.GridFault.{GridFault}
use Rattle.ldp_grids.specs.declared.fault.GridFault.TheVariants.{UnknownKey, OutOfRange}
use Rattle.ldp_grids.specs.Columns.{form_of}
use Rattle.ldp_design.specs.KeyRanges.{range_of, is_in_range}
use Rattle.ldp_design.specs.Words.{key_text}
use Rattle.ldp_grids.specs.Numbers.{needed, number_of, step_of, count_of}
use Rattle.ldp_grids.specs.Tables.{keys_of}

-- a key that an axis table has; it may have no other
abbrev pub is_axis_key : List ℕ → Bool
is_axis_key name =
    bytes_eq name (codes "from") || bytes_eq name (codes "step") || bytes_eq name (codes "count")

-- an axis whose last value is in range
abbrev pub ending_in_range : ℕ → Kind → Key → Axis → Result Axis GridFault
ending_in_range family kind key axis =
    if is_in_range (range_of key kind) (last_value axis) then Ok axis
    else Err (OutOfRange family key Count)

-- the values that an axis table says
unfoldable pub spaced_values : ℕ → Kind → Key → Members → Result Axis GridFault
spaced_values family kind key table = do
  from ← needed family key From (get_member (codes "from") table) >>= number_of family kind key From
  step ← needed family key Step (get_member (codes "step") table) >>= step_of family kind key
  count ← needed family key Count (get_member (codes "count") table) >>= count_of family key
  ending_in_range family kind key record { from = from; step = step; count = count }

-- the axis that a table says; a table with any other key is a fault
unfoldable pub spaced_axis : ℕ → Kind → Key → Members → Result Axis GridFault
spaced_axis family kind key table =
    if list_all is_axis_key (keys_of table) then spaced_values family kind key table
    else Err (UnknownKey family key)

-- the axis of one value
unfoldable pub single_of : ℕ → Kind → Key → Data → Result Axis GridFault
single_of family kind key given = number_of family kind key Whole given >>= λ n. Ok (single_axis n)

-- an axis table if the value is a table, else the axis of one value
abbrev pub table_or_single : ℕ → Kind → Key → Data → Option Members → Result Axis GridFault
table_or_single family kind key given None = single_of family kind key given
table_or_single family kind key given (Some table) = spaced_axis family kind key table

-- the axis of a key's value: an axis table, or one value
unfoldable pub axis_of : ℕ → Kind → Key → Data → Result Axis GridFault
axis_of family kind key given = table_or_single family kind key given (as_table given)

-- the value of a key that is not given
abbrev pub unless_given : Key → ℤ
unless_given keys.Scale = tenths 10
unless_given keys.Top = pos 0
unless_given keys.Family = pos 0
unless_given keys.Kind = pos 0
unless_given keys.Lat = pos 0
unless_given keys.Lat2 = pos 0
unless_given keys.Lon = pos 0
unless_given keys.Azimuth = pos 0
unless_given keys.Origin = pos 0
unless_given keys.Easting = pos 0
unless_given keys.Northing = pos 0

-- the axis of a key by its form, from the value that was found for it; a key that is not given has
-- its usual value
abbrev pub quantity_as : ℕ → Kind → Key → Form → Option Data → Result Axis GridFault
quantity_as family kind key forms.Never found = Ok (single_axis (unless_given key))
quantity_as family kind key forms.Single found =
    needed family key Whole found >>= single_of family kind key
quantity_as family kind key forms.Axis found =
    needed family key Whole found >>= axis_of family kind key
quantity_as family kind key forms.Optional None = Ok (single_axis (unless_given key))
quantity_as family kind key forms.Optional (Some given) = single_of family kind key given

-- the axis of a key in a family's table
unfoldable pub quantity_of : ℕ → Kind → Key → Members → Result Axis GridFault
quantity_of family kind key table =
    quantity_as family kind key (form_of key kind) (get_member (key_text key) table)
