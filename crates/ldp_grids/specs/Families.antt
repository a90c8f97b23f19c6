-- A family of designs as a TOML table, and the order of its faults. (Own choice of this project.)
use Rattle.std.specs.Prelude.{ℕ, Bool, ◌&&◌, ◌||◌, false, nat_le, ◌^◌, pos, int_lt}
use Rattle.std.specs.Prelude.{Result, Ok, Err, if◌then◌else◌}
use Rattle.std.specs.List.{list_all}
use Rattle.std.specs.Option.{ok_or}
use Rattle.toml.specs.Data.{Members, get_member}
use Rattle.ldp_quantity.specs.Results.{◌>>=◌}
use Rattle.ldp_design.specs.declared.axis.Axis.{Axis}
use Rattle.ldp_design.specs.declared.family.Kind.{Kind}
use Rattle.ldp_design.specs.declared.family.Family.{Family}
use Rattle.ldp_design.specs.Families.{last_value, design_count}
use Rattle.ldp_design.specs.declared.key.Key.TheVariants as keys
use Rattle.ldp_grids.specs.declared.fault.Part.TheVariants.{Whole}
use Rattle.ldp_grids.specs.declared.fault.GridFault.{GridFault}
use Rattle.ldp_grids.specs.declared.fault.GridFault.TheVariants.{BadValue, UnknownKey}
use Rattle.ldp_grids.specs.declared.fault.GridFault.TheVariants.{CrossesEquator, TooManyDesigns}
use Rattle.ldp_design.specs.Kinds.{by_kind}
use Rattle.ldp_design.specs.Words.{key_text, kind_named}
use Rattle.ldp_grids.specs.Columns.{is_family_key}
use Rattle.ldp_grids.specs.Numbers.{needed, text_of}
use Rattle.ldp_grids.specs.Axes.{quantity_of}
use Rattle.ldp_grids.specs.Tables.{keys_of}

-- the kind that a family's table says; a fault if it is missing, no string or no kind
unfoldable pub kind_of : ℕ → Members → Result Kind GridFault
kind_of family table = needed family keys.Kind Whole (get_member (key_text keys.Kind) table)
    >>= text_of family keys.Kind Whole
    >>= λ name. ok_or (kind_named name) (BadValue family keys.Kind Whole)

-- the family of these axes, of which some hold one value;
-- the second parallel is the third axis of its designs
abbrev pub family_with : Kind → Axis → Axis → Axis → Axis → Axis → Axis → Axis → Axis → Family
family_with kind lat lat2 lon azimuth scale origin easting northing = record {
  kind = kind;
  lat = lat;
  lon = lon;
  azimuth = by_kind azimuth azimuth azimuth lat2 kind;
  scale = scale;
  origin = origin.from;
  easting = easting.from;
  northing = northing.from;
}

-- the quantities of a family, in the order of their faults
unfoldable pub quantities_of : ℕ → Kind → Members → Result Family GridFault
quantities_of family kind table = do
  lat ← quantity_of family kind keys.Lat table
  lat2 ← quantity_of family kind keys.Lat2 table
  lon ← quantity_of family kind keys.Lon table
  azimuth ← quantity_of family kind keys.Azimuth table
  scale ← quantity_of family kind keys.Scale table
  origin ← quantity_of family kind keys.Origin table
  easting ← quantity_of family kind keys.Easting table
  northing ← quantity_of family kind keys.Northing table
  Ok (family_with kind lat lat2 lon azimuth scale origin easting northing)

-- the first value lies south of the equator and the last north of it
abbrev pub crosses : Axis → Bool
crosses axis = int_lt axis.from (pos 0) && int_lt (pos 0) (last_value axis)

-- an axis of parallels crosses the equator
abbrev pub crosses_equator : Family → Bool
crosses_equator f = crosses f.lat || by_kind false false false (crosses f.azimuth) f.kind

-- a family that crosses no equator and has at most 10^12 designs
unfoldable pub within_limits : ℕ → Family → Result Family GridFault
within_limits family f =
    if crosses_equator f then Err (CrossesEquator family)
    else if nat_le (design_count f) (10 ^ 12) then Ok f
    else Err (TooManyDesigns family)

-- the family of a table with this kind; a key that the kind does not have is a fault
abbrev pub known_quantities : ℕ → Members → Kind → Result Family GridFault
known_quantities family table kind =
    if list_all (is_family_key kind) (keys_of table) then quantities_of family kind table
    else Err (UnknownKey family keys.Family)

-- the family of a table
unfoldable pub family_of : ℕ → Members → Result Family GridFault
family_of family table = do
  kind ← kind_of family table
  f ← known_quantities family table kind
  within_limits family f
