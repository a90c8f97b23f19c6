-- How a fault of cells is told: by its name and its values, each after a blank. Own choice of
-- this project.
use Rattle.std.specs.Prelude.{ℕ, List, ◌++◌, decimal, codes}
use Rattle.ldp_cells.specs.declared.fault.CellsFault.{CellsFault}
use Rattle.ldp_cells.specs.declared.fault.CellsFault.TheVariants as faults

-- a fault of cells, with the number of cells if they are too many
abbrev pub cells_fault_text : CellsFault → List ℕ
cells_fault_text (faults.TooManyCells count) = codes "TooManyCells " ++ decimal count
cells_fault_text faults.Memory = codes "Memory"
