-- The rows of a table: the cells with the distortion of a design there.
use Rattle.std.specs.Prelude.{◌≡◌, ℤ, List, [], ◌∷◌, Option, Some, None}
use Rattle.ldp_num.specs.Number.{IsNumber}
use Rattle.ldp_cells.specs.declared.cell.Cell.{Cell}
use Rattle.ldp_cells.specs.Range.{IsInRange}
use Rattle.ldp_distortion.specs.Prepared.{PreparedCells, prepared}
use Rattle.ldp_table.specs.declared.row.Row.{Row}

-- the prepared cells are these
abbrev pub IsOver : PreparedCells → List Cell → Type 0
IsOver p cells = p ≡ prepared p.lists cells

-- each cell where the design is defined, with its distortion; a usable design is defined at each
abbrev pub rows_of : List Cell → List (Option ℤ) → List Row
rows_of [] found = []
rows_of (cell ∷ cells) [] = []
rows_of (cell ∷ cells) (None ∷ found) = rows_of cells found
rows_of (cell ∷ cells) (Some z ∷ found) =
    record { cell = cell; distortion = z } ∷ rows_of cells found

-- what the rows of prepared cells keep
pub record IsRow (row : Row) : Type 0 where
  pub cell : IsInRange row.cell
  pub distortion : IsNumber row.distortion
