-- A grid of ellipsoid heights over latitude and longitude, and the centres of its places.
use Rattle.std.specs.Prelude.{ℕ, ◌+◌, ◌-◌, ◌*◌, ◌/◌, ◌^◌, ◌≤◌, ◌≡◌, ℤ, pos, neg_ℤ, ◌+ℤ◌, List}
use Rattle.std.specs.Prelude.{length, All}
use Rattle.std.specs.Prelude.{Option, Some, None, slice_index_or}
use Rattle.ldp_quantity.specs.Between.{IsBetween}
use Rattle.ldp_quantity.specs.Quantity.{degrees}

-- a coordinate in 10^-12 degrees, given for the south-west corner of the grid or for the centre of
-- its south-west place
pub data Coordinate : Type 0 where
  corner centre : ℤ → Coordinate

-- heights in millimetres, and gaps where they are missing, stand row by row from the north, each
-- row from west to east; the spacing is in 10^-12 degrees
pub record HeightGrid : Type 0 where
  pub rows : ℕ
  pub cols : ℕ
  pub x : Coordinate
  pub y : Coordinate
  pub spacing : ℕ
  pub heights : List (Option ℤ)

-- the height of a place; row 0 is the north row
abbrev pub place_height : HeightGrid → ℕ → ℕ → Option ℤ
place_height grid row column = slice_index_or grid.heights (row * grid.cols + column) None

-- along an axis, the centre of the place with so many places before it, from west or south; half a
-- unit is rounded down
abbrev pub centre_along : Coordinate → ℕ → ℕ → ℤ
centre_along (corner edge) spacing before = edge +ℤ pos ((2 * before + 1) * spacing / 2)
centre_along (centre first) spacing before = first +ℤ pos (before * spacing)

-- the longitude of the centres of a column, counted from 0 in the west
abbrev pub centre_x : HeightGrid → ℕ → ℤ
centre_x grid column = centre_along grid.x grid.spacing column

-- the latitude of the centres of a row, counted from 0 in the north
abbrev pub centre_y : HeightGrid → ℕ → ℤ
centre_y grid row = centre_along grid.y grid.spacing (grid.rows - 1 - row)

-- the most places of a grid
abbrev pub most_places : ℕ
most_places = 4_000_000

-- so many metres, in millimetres: the unit of heights
abbrev pub metres : ℕ → ℤ
metres n = pos (n * 1000)

-- from -360 to 360 degrees
abbrev pub IsDegrees : ℤ → Type 0
IsDegrees = IsBetween (neg_ℤ (degrees 360)) (degrees 360)

-- the coordinate that is given, of corner or centre, is at most a full turn either way
abbrev pub IsCoordinate : Coordinate → Type 0
IsCoordinate (corner edge) = IsDegrees edge
IsCoordinate (centre first) = IsDegrees first

-- above 0 and at most 10 degrees
abbrev pub IsSpacing : ℕ → Type 0
IsSpacing n = (1 ≤ n) × (n ≤ 10 * 10 ^ 12)

-- a height of at most 100,000 m in absolute value, or a gap
abbrev pub IsHeight : Option ℤ → Type 0
IsHeight None = Unit {0}
IsHeight (Some height) = IsBetween (neg_ℤ (metres 100_000)) (metres 100_000) height

-- what every grid that is read keeps
pub record IsHeightGrid (grid : HeightGrid) : Type 0 where
  pub some_rows : 1 ≤ grid.rows
  pub some_cols : 1 ≤ grid.cols
  pub places : grid.cols * grid.rows ≤ most_places
  pub x : IsCoordinate grid.x
  pub y : IsCoordinate grid.y
  pub spacing : IsSpacing grid.spacing
  pub each_place : length grid.heights ≡ grid.cols * grid.rows
  pub heights : All IsHeight grid.heights
