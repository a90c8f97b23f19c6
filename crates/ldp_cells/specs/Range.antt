-- What every list of cells keeps, and heights that are raised.
use Rattle.std.specs.Prelude.{◌≤◌, length, All, Some, ℤ, neg_ℤ, ◌+ℤ◌, List, map}
use Rattle.ldp_quantity.specs.Between.{IsBetween}
use Rattle.ldp_heights.specs.Grid.{IsHeight, metres}
use Rattle.ldp_zone.specs.Area.{IsNear}
use Rattle.ldp_cells.specs.Cells.{CellList, most_cells}
use Rattle.ldp_cells.specs.declared.cell.Cell.{Cell}

-- the height is one that a grid may have: at most 100,000 m in absolute value
abbrev pub HasGridHeight : Cell → Type 0
HasGridHeight cell = IsHeight (Some cell.mm)

-- by how much heights may be raised, in millimetres: at most 1,000 m, up or down
abbrev pub IsRise : ℤ → Type 0
IsRise = IsBetween (neg_ℤ (metres 1000)) (metres 1000)

-- the centre is a point that a zone may have, and the height is one that a grid may have, raised by
-- 1,000 m at most
pub record IsInRange (cell : Cell) : Type 0 where
  pub near : IsNear record { x = cell.x; y = cell.y }
  pub height : IsBetween (neg_ℤ (metres 101_000)) (metres 101_000) cell.mm

-- not too many cells, each in range
pub record IsCellList (list : CellList) : Type 0 where
  pub few : length list.cells ≤ most_cells
  pub in_range : All IsInRange list.cells

-- a cell whose height is so many millimetres more
abbrev pub raised_cell : ℤ → Cell → Cell
raised_cell by cell = record cell { mm = cell.mm +ℤ by }

-- the same cells, each raised by so many millimetres
abbrev pub raised : ℤ → List Cell → List Cell
raised by cells = map (raised_cell by) cells
