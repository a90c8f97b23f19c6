-- What is found place by place, of which the private functions speak.
use Rattle.std.specs.Prelude.{ℕ, ◌+◌, ◌-◌, ◌*◌, ◌≤◌, ◌≡◌, Bool, List, ◌++◌, length}
use Rattle.std.specs.Prelude.{filter, filter_map, All, ℤ, Option, Some, None, [], ◌∷◌, nat_lt}
use Rattle.std.specs.Prelude.{if◌then◌else◌}
use Rattle.std.specs.List.{range_with_len}
use Rattle.ldp_heights.specs.Grid.{HeightGrid, place_height}
use Rattle.ldp_zone.specs.declared.point.Point.{Point}
use Rattle.ldp_cells.specs.Cells.{cell_with, cell_at, is_gap, cells_among, gaps_among, most_cells}
use Rattle.ldp_cells.specs.Range.{IsInRange, HasGridHeight}
use Rattle.ldp_cells.specs.declared.cell.Cell.{Cell}

-- the cells found, as long as they are not too many; how many there are; and how many places
-- beside them lie in the region and have no height
pub record Tally : Type 0 where
  pub cells : List Cell
  pub count : ℕ
  pub missing : ℕ

-- what every tally keeps
pub record IsKept (tally : Tally) : Type 0 where
  pub few : length tally.cells ≤ tally.count
  pub most : length tally.cells ≤ most_cells
  pub in_range : All IsInRange tally.cells
  pub heights : All HasGridHeight tally.cells

-- one place more, which lies in the region and has this height
abbrev pub with_height : HeightGrid → ℕ → ℕ → Option ℤ → Tally → Tally
with_height grid row col None tally = record tally { missing = tally.missing + 1 }
with_height grid row col (Some mm) tally = record {
  cells = if nat_lt tally.count most_cells then tally.cells ++ cell_with grid row col mm ∷ []
      else tally.cells;
  count = tally.count + 1;
  missing = tally.missing;
}

-- one place more, which lies in the region, with the height that the grid has there
abbrev pub with_place : HeightGrid → ℕ → ℕ → Tally → Tally
with_place grid row col tally = with_height grid row col (place_height grid row col) tally

-- the places from one on
abbrev pub places_from : ℕ → ℕ → List ℕ
places_from place count = range_with_len place (count - place)

-- the cells among them
abbrev pub cells_from : (Point → Bool) → HeightGrid → ℕ → List Cell
cells_from test grid place =
    filter_map (cell_at test grid) (places_from place (grid.cols * grid.rows))

-- how many of them have no height
abbrev pub gaps_from : (Point → Bool) → HeightGrid → ℕ → ℕ
gaps_from test grid place =
    length (filter (is_gap test grid) (places_from place (grid.cols * grid.rows)))

-- what was found before a place, and what is there from it on, are all
pub record IsTally (test : Point → Bool) (grid : HeightGrid) (place : ℕ) (tally : Tally)
    : Type 0 where
  pub count : tally.count + length (cells_from test grid place) ≡ length (cells_among test grid)
  pub missing : tally.missing + gaps_from test grid place ≡ gaps_among test grid
  pub cells : tally.count ≤ most_cells
      → tally.cells ++ cells_from test grid place ≡ cells_among test grid
