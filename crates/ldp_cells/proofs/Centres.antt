-- The centres of a row stand at equal distances.
use Rattle.std.proofs.Common.{◌≡◌, ℕ, ◌+◌, ◌*◌, ◌/◌, ◌≤◌, ℤ, pos, neg_ℤ, ◌+ℤ◌, arith, ap, sym, ◌∙◌}
use Rattle.std.proofs.Common.{◌<◌, Bool, false, List, slice_index_or}
use Rattle.std.proofs.lemmas.Int.{ints}
use Rattle.std.proofs.Math.Nat.{add-mul-div_right}
use Rattle.ldp_quantity.specs.Between.{IsBetween}
use Rattle.ldp_quantity.specs.Quantity.{degrees}
use Rattle.ldp_heights.specs.Grid.{Coordinate, corner, centre, centre_along, IsCoordinate}
use Rattle.ldp_heights.specs.Grid.{IsSpacing}
use Rattle.ldp_heights.specs.Grid.{HeightGrid, centre_x, centre_y, IsHeightGrid}
use Rattle.ldp_zone.specs.declared.point.Point.{Point}
use Rattle.ldp_cells.specs.Cells as cells
use Rattle.ldp_cells.specs.Rows.{IsRow, IsRowOf, AreMarks}
use Rattle.ldp_cells.specs.declared.row.Row.{Row}

halves : (column spacing : ℕ)
    → (2 * column + 1) * spacing / 2 ≡ (2 * 0 + 1) * spacing / 2 + column * spacing
halves column spacing =
    let whole : (2 * column + 1) * spacing ≡ spacing + column * spacing * 2 = omega arith in
    let one : (2 * 0 + 1) * spacing ≡ spacing = omega arith in
    ap (λ n. n / 2) whole ∙ add-mul-div_right spacing (column * spacing) {z = 2} (omega arith)
    ∙ ap (λ n. n / 2 + column * spacing) (sym one)

pub equal_distances : (given : Coordinate) (spacing column : ℕ)
    → centre_along given spacing 0 +ℤ pos (column * spacing) ≡ centre_along given spacing column
equal_distances (corner edge) spacing column =
    let e = halves column spacing in
    omega (arith, ints)
equal_distances (centre first) spacing column = omega (arith, ints)

pub first_centre : (given : Coordinate) (spacing : ℕ) → IsCoordinate given → IsSpacing spacing
    → IsBetween (neg_ℤ (degrees 360)) (degrees 400) (centre_along given spacing 0)
first_centre (corner edge) spacing near range = (omega (arith, ints), omega (arith, ints))
first_centre (centre first) spacing near range = (omega (arith, ints), omega (arith, ints))

-- the row of a grid with its first centre
pub row_of : (grid : HeightGrid) (number : ℕ) (row : Row) → row.x ≡ centre_x grid 0
    → row.y ≡ centre_y grid number
    → row.spacing ≡ grid.spacing
    → row.cols ≡ grid.cols
    → IsRowOf grid number row
row_of grid number row x y spacing cols = record {
  cols = cols;
  centres = λ column.
      let east : row.x +ℤ pos (column * row.spacing) ≡ centre_x grid column =
      rw (x, spacing) (equal_distances grid.x grid.spacing column) in
      let at_x : ℤ → Point = λ n. record { x = n; y = row.y } in
      let at_y : ℤ → Point = λ n. record { x = centre_x grid column; y = n } in
      ap at_x east ∙ ap at_y y;
}

pub row_in_range : (grid : HeightGrid) (number : ℕ) (row : Row) → IsHeightGrid grid
    → row.x ≡ centre_x grid 0
    → row.spacing ≡ grid.spacing
    → row.cols ≡ grid.cols
    → row.cols ≤ 4_000_000
    → IsBetween (neg_ℤ (degrees 360)) (degrees 100_000_000) row.y
    → IsRow row
row_in_range grid number row kept x spacing cols few y = record {
  x = rw x (first_centre grid.x grid.spacing kept.x kept.spacing);
  y = (omega (arith, ints), omega (arith, ints));
  some = omega (arith, kept.spacing.0);
  spacing = omega (arith, kept.spacing.1);
  cols = few;
}

-- the marks of the row of a grid
pub grid_marks : (test : Point → Bool) (grid : HeightGrid) (number : ℕ) (row : Row)
    (marks : List Bool) → IsRowOf grid number row
    → AreMarks test row marks
    → (column : ℕ) → column < grid.cols
    → slice_index_or marks column false ≡ test (cells.centre grid number column)
grid_marks test grid number row marks of marked column within =
    marked.tests column (omega (arith, of.cols)) ∙ ap test (of.centres column)
