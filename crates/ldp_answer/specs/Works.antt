-- What work over values that were read gives. Own choice of this project.
use Rattle.std.specs.Prelude.{◌≡◌, Result, Ok, Err}
use Rattle.ldp_cells.specs.declared.fault.CellsFault.{CellsFault}
use Rattle.ldp_cells.specs.declared.fault.CellsFault.TheVariants as cells
use Rattle.ldp_search.specs.declared.fault.SearchFault.{SearchFault}
use Rattle.ldp_search.specs.declared.fault.SearchFault.TheVariants as searches
use Rattle.ldp_message.specs.declared.refusal.Refusal.{Refusal}
use Rattle.ldp_message.specs.declared.refusal.Refusal.TheVariants.{RefusedCells, BudgetSpent}
use Rattle.ldp_message.specs.declared.refusal.Refusal.TheVariants.{NoUsableDesign}
use Rattle.ldp_answer.specs.declared.fault.WorkFault.{WorkFault}
use Rattle.ldp_answer.specs.declared.fault.WorkFault.TheVariants as faults

-- the result is what is told, or memory is wanting
abbrev pub Works : {A : Type 0} → Result A WorkFault → Result A Refusal → Type 0
Works (Ok a) told = told ≡ Ok a
Works (Err (faults.Refused refusal)) told = told ≡ Err refusal
Works (Err faults.Memory) told = Unit {0}

-- work stops where the cells cannot be had
abbrev pub cells_work : CellsFault → WorkFault
cells_work (cells.TooManyCells count) = faults.Refused (RefusedCells (cells.TooManyCells count))
cells_work cells.Memory = faults.Memory

-- a search stops where its budget is spent, or where no design is usable
abbrev pub search_work : SearchFault → WorkFault
search_work (searches.Budget evaluated) = faults.Refused (BudgetSpent evaluated)
search_work (searches.NoUsable nodes) = faults.Refused NoUsableDesign
search_work searches.Memory = faults.Memory
