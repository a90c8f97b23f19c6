-- The cells that a command works over, of which there is at least one. Own choice of this project.
use Rattle.std.specs.Prelude.{◌==◌, List, length, Result, Ok, Err, if◌then◌else◌}
use Rattle.ldp_quantity.specs.Results.{◌>>=◌}
use Rattle.ldp_zone.specs.declared.point.Point.{Point}
use Rattle.ldp_heights.specs.Grid.{HeightGrid}
use Rattle.ldp_cells.specs.Cells.{CellList, zone_cells, area_cells}
use Rattle.ldp_message.specs.Refusal.{or_refused}
use Rattle.ldp_message.specs.declared.refusal.Refusal.{Refusal}
use Rattle.ldp_message.specs.declared.refusal.Refusal.TheVariants as refusals

-- the cells, if there is one, else the refusal `no cell`
abbrev pub some_cells : CellList → Result CellList Refusal
some_cells list = if length list.cells == 0 then Err refusals.NoCell else Ok list

-- the cells of a zone, a list of rings
abbrev pub cells_read : List (List Point) → HeightGrid → Result CellList Refusal
cells_read zone grid = do
  list ← or_refused refusals.RefusedCells (zone_cells zone grid)
  some_cells list

-- the cells of the area
abbrev pub area_read : HeightGrid → Result CellList Refusal
area_read grid = do
  list ← or_refused refusals.RefusedCells (area_cells grid)
  some_cells list
