-- The numbers of a row are small.
use Rattle.std.proofs.Common.{◌≡◌, ◌≤◌, ℤ, unsigned_abs, to_z, of_z, arith}
use Rattle.std.specs.Int.{w32, w128}
use Rattle.std.proofs.lemmas.Int.{ints, to_z-of_z, fits_signed_from_abs}
use Rattle.ldp_num.specs.Number.{IsNumber}
use Rattle.ldp_table.specs.declared.row.Row.{Row}
use Rattle.ldp_table.specs.Rows.{IsRow}

-- at most the greatest number, and so kept as it is
pub record IsSmall (z : ℤ) : Type 0 where
  pub size : unsigned_abs z ≤ 10000000000000000000
  pub held : to_z w128 (of_z w128 z) ≡ z

small : (z : ℤ) → unsigned_abs z ≤ 10000000000000000000 → IsSmall z
small z h = record {
  size = h;
  held = to_z-of_z w128 z (fits_signed_from_abs w128 z (omega (arith, h)));
}

pub small_number : (z : ℤ) → IsNumber z → IsSmall z
small_number z h = small z (omega (arith, ints, h.low, h.high))

pub small_lat : (row : Row) → IsRow row → IsSmall row.cell.y
small_lat row h =
    small row.cell.y (omega (arith, ints, h.cell.near.latitude.0, h.cell.near.latitude.1))

pub small_lon : (row : Row) → IsRow row → IsSmall row.cell.x
small_lon row h =
    small row.cell.x (omega (arith, ints, h.cell.near.longitude.0, h.cell.near.longitude.1))

pub small_height : (row : Row) → IsRow row → IsSmall row.cell.mm
small_height row h = small row.cell.mm (omega (arith, ints, h.cell.height.0, h.cell.height.1))

pub height_held : (row : Row) → IsRow row → to_z w32 (of_z w32 row.cell.mm) ≡ row.cell.mm
height_held row h =
    to_z-of_z w32 row.cell.mm
    (fits_signed_from_abs w32 row.cell.mm (omega (arith, ints, h.cell.height.0, h.cell.height.1)))
