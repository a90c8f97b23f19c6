-- The cells of a zone over a grid of heights: the places that have a height and whose centre lies
-- in the zone, in row order. The north row comes first, each row from west to east (Esri ASCII
-- grid). The rule of what lies in a zone is that of the zone; the area and the limit are own
-- choices of this project.
use Rattle.std.specs.Prelude.{ℕ, ◌*◌, ◌/◌, ◌%◌, Bool, ◌&&◌, nat_le, ℤ}
use Rattle.std.specs.Prelude.{List, length, filter, filter_map}
use Rattle.std.specs.Prelude.{Option, None, option_map, is_none, Result, Ok, Err, if◌then◌else◌}
use Rattle.std.specs.List.{range_with_len}
use Rattle.ldp_heights.specs.Grid.{HeightGrid, place_height, centre_x, centre_y}
use Rattle.ldp_zone.specs.Inside.{inside}
use Rattle.ldp_zone.specs.Area.{is_in_area}
use Rattle.ldp_zone.specs.declared.point.Point.{Point}
use Rattle.ldp_cells.specs.declared.cell.Cell.{Cell}
use Rattle.ldp_cells.specs.declared.fault.CellsFault.{CellsFault}
use Rattle.ldp_cells.specs.declared.fault.CellsFault.TheVariants.{TooManyCells}

-- the greatest number of cells
abbrev pub most_cells : ℕ
most_cells = 200_000

-- the point lies in the zone
unfoldable pub in_zone : List (List Point) → Point → Bool
in_zone rings at = inside rings at.x at.y

-- the point lies in the closed rectangle of longitude -180 to 360 and latitude -80 to 80
unfoldable pub in_area : Point → Bool
in_area at = is_in_area at

-- the centre of the place at a row and a column
abbrev pub centre : HeightGrid → ℕ → ℕ → Point
centre grid row col = record { x = centre_x grid col; y = centre_y grid row }

-- the cell of a place with this height
abbrev pub cell_with : HeightGrid → ℕ → ℕ → ℤ → Cell
cell_with grid row col height =
    record { row = row; col = col; x = centre_x grid col; y = centre_y grid row; mm = height }

-- the cell that a place is, if its centre passes the test and it has a height
unfoldable pub cell_in : (Point → Bool) → HeightGrid → ℕ → ℕ → Option Cell
cell_in test grid row col =
    if test (centre grid row col)
    then option_map (cell_with grid row col) (place_height grid row col)
    else None

-- the centre of a place passes the test, and it has no height
unfoldable pub is_gap_in : (Point → Bool) → HeightGrid → ℕ → ℕ → Bool
is_gap_in test grid row col = test (centre grid row col) && is_none (place_height grid row col)

-- all places of a grid, by their numbers in row order
unfoldable pub places : HeightGrid → List ℕ
places grid = range_with_len 0 (grid.cols * grid.rows)

-- the cell of the place with this number in row order; None if it is outside or has no height
unfoldable pub cell_at : (Point → Bool) → HeightGrid → ℕ → Option Cell
cell_at test grid place = cell_in test grid (place / grid.cols) (place % grid.cols)

-- the place with this number in row order has its centre inside, and no height
unfoldable pub is_gap : (Point → Bool) → HeightGrid → ℕ → Bool
is_gap test grid place = is_gap_in test grid (place / grid.cols) (place % grid.cols)

-- the cells among the places whose centres pass the test
abbrev pub cells_among : (Point → Bool) → HeightGrid → List Cell
cells_among test grid = filter_map (cell_at test grid) (places grid)

-- how many places beside them pass the test and have no height
abbrev pub gaps_among : (Point → Bool) → HeightGrid → ℕ
gaps_among test grid = length (filter (is_gap test grid) (places grid))

-- the cells in row order, and how many places beside them have no height
pub record CellList : Type 0 where
  pub cells : List Cell
  pub missing : ℕ

-- the cells, if they are not too many
abbrev pub within_limit : CellList → Result CellList CellsFault
within_limit list =
    if nat_le (length list.cells) most_cells then Ok list else Err (TooManyCells (length list.cells))

-- the cells among the places of a grid whose centres pass the test, or that they are too many
unfoldable pub cells_where : (Point → Bool) → HeightGrid → Result CellList CellsFault
cells_where test grid =
    within_limit record { cells = cells_among test grid; missing = gaps_among test grid }

-- the cells of a zone
abbrev pub zone_cells : List (List Point) → HeightGrid → Result CellList CellsFault
zone_cells rings grid = cells_where (in_zone rings) grid

-- the cells of the area
abbrev pub area_cells : HeightGrid → Result CellList CellsFault
area_cells grid = cells_where in_area grid
