-- The columns of a row, and what a row is filled with, of which the private functions speak.
use Rattle.std.specs.Prelude.{ℕ, ◌+◌, ◌*◌, ◌^◌, ◌<◌, ◌≤◌, ◌≡◌, Bool, true, false, ◌||◌, nat_lt}
use Rattle.std.specs.Prelude.{if◌then◌else◌, int_lt, ℤ, pos, neg_ℤ, ◌+ℤ◌, ◌-ℤ◌, List, length}
use Rattle.std.specs.Prelude.{slice_index_or, count_by, cond}
use Rattle.std.specs.List.{list_any}
use Rattle.ldp_quantity.specs.Between.{IsBetween}
use Rattle.ldp_quantity.specs.Quantity.{degrees}
use Rattle.ldp_heights.specs.Grid.{HeightGrid, most_places}
use Rattle.ldp_zone.specs.Inside.{crosses, on_edge, edge_east, point_east}
use Rattle.ldp_zone.specs.Area.{IsNear, IsFar}
use Rattle.ldp_zone.specs.declared.point.Point.{Point}
use Rattle.ldp_zone.specs.declared.edge.Edge.{Edge}
use Rattle.ldp_cells.specs.Cells.{centre}
use Rattle.ldp_cells.specs.declared.row.Row.{Row}

-- the centre of a column
abbrev pub column_centre : Row → ℕ → Point
column_centre row column = record { x = row.x +ℤ pos (column * row.spacing); y = row.y }

-- what the row of a grid keeps
pub record IsRow (row : Row) : Type 0 where
  pub x : IsBetween (neg_ℤ (degrees 360)) (degrees 400) row.x
  pub y : IsFar row.y
  pub some : 1 ≤ row.spacing
  pub spacing : row.spacing ≤ 10 * 10 ^ 12
  pub cols : row.cols ≤ most_places

-- how far east of the first centre the line through an edge meets the height of the row, times the
-- edge's rise
unfoldable pub gap : Row → Edge → ℤ
gap row edge =
    let first = column_centre row 0 in
    if int_lt edge.start.y edge.end.y then edge_east first edge -ℤ point_east first edge
    else point_east first edge -ℤ edge_east first edge

-- the row with this number of a grid
pub record IsRowOf (grid : HeightGrid) (number : ℕ) (row : Row) : Type 0 where
  pub cols : row.cols ≡ grid.cols
  pub centres : (column : ℕ) → column_centre row column ≡ centre grid number column

-- a mark for each column: true if its centre passes the test
pub record AreMarks (test : Point → Bool) (row : Row) (marks : List Bool) : Type 0 where
  pub each : length marks ≡ row.cols
  pub tests : (column : ℕ) → column < row.cols
      → slice_index_or marks column false ≡ test (column_centre row column)

-- points that pass the test are such as a zone may have
abbrev pub IsNearTest : (Point → Bool) → Type 0
IsNearTest test = (at : Point) → test at ≡ true → IsNear at

-- for each crossing the number of columns whose centre is strictly west of it, and for each column
-- whether it is marked
pub record Filling : Type 0 where
  pub crossings : List ℕ
  pub marks : List Bool

-- how many crossings are strictly east of the centre of a column
abbrev pub crossings_beyond : ℕ → List ℕ → ℕ
crossings_beyond column crossings = count_by (nat_lt column) crossings

-- one edge more
pub record TakesEdge (row : Row) (edge : Edge) (old new : Filling) : Type 0 where
  pub each : length new.marks ≡ length old.marks
  pub crossings : (column : ℕ) → column < row.cols
      → crossings_beyond column new.crossings
      ≡ crossings_beyond column old.crossings
      + cond (crosses (column_centre row column) edge) 1 0
  pub marks : (column : ℕ) → column < row.cols
      → slice_index_or new.marks column false
      ≡ (slice_index_or old.marks column false || on_edge (column_centre row column) edge)

-- what a row holds after these edges, and before it is filled
pub record HoldsEdges (row : Row) (edges : List Edge) (filling : Filling) : Type 0 where
  pub each : length filling.marks ≡ row.cols
  pub crossings : (column : ℕ) → column < row.cols
      → crossings_beyond column filling.crossings
      ≡ count_by (crosses (column_centre row column)) edges
  pub marks : (column : ℕ) → column < row.cols
      → slice_index_or filling.marks column false
      ≡ list_any (on_edge (column_centre row column)) edges
