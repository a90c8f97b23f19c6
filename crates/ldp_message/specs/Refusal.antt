-- How a refusal is told: its status, and its text on the error output. Own choice of this project.
use Rattle.std.specs.Prelude.{ℕ, List, ◌++◌, decimal, codes, Result, Ok, Err}
use Rattle.ldp_message.specs.FileRole.{role_name}
use Rattle.ldp_message.specs.ZoneFault.{zone_fault_text}
use Rattle.ldp_message.specs.HeightFault.{height_fault_text}
use Rattle.ldp_message.specs.GridFault.{grid_fault_text}
use Rattle.ldp_message.specs.JobFault.{job_fault_text}
use Rattle.ldp_message.specs.CellsFault.{cells_fault_text}
use Rattle.ldp_message.specs.declared.refusal.Refusal.{Refusal}
use Rattle.ldp_message.specs.declared.refusal.Refusal.TheVariants as refusals

-- the exit status: 4 for a fault of an input, 5 and 6 for a problem with no cell or no usable
-- design, 7 for a spent budget, 10 for a file that is too long
abbrev pub refusal_status : Refusal → ℕ
refusal_status (refusals.RefusedZone fault) = 4
refusal_status (refusals.RefusedHeights fault) = 4
refusal_status (refusals.RefusedGrids fault) = 4
refusal_status (refusals.RefusedJob fault) = 4
refusal_status (refusals.RefusedCells fault) = 4
refusal_status refusals.NoCell = 5
refusal_status refusals.NoUsableDesign = 6
refusal_status (refusals.BudgetSpent budget) = 7
refusal_status (refusals.TooLong role) = 10

-- the words on the error output, without the line feed
abbrev pub refusal_text : Refusal → List ℕ
refusal_text (refusals.TooLong role) = codes "too long " ++ role_name role
refusal_text (refusals.RefusedZone fault) = codes "refused zone " ++ zone_fault_text fault
refusal_text (refusals.RefusedHeights fault) = codes "refused heights " ++ height_fault_text fault
refusal_text (refusals.RefusedGrids fault) = codes "refused grids " ++ grid_fault_text fault
refusal_text (refusals.RefusedJob fault) = codes "refused job " ++ job_fault_text fault
refusal_text (refusals.RefusedCells fault) = codes "refused cells " ++ cells_fault_text fault
refusal_text refusals.NoCell = codes "no cell"
refusal_text refusals.NoUsableDesign = codes "no usable design"
refusal_text (refusals.BudgetSpent budget) = codes "budget " ++ (decimal budget ++ codes " spent")

-- a layer's result, its fault told as a refusal
abbrev pub or_refused : {A F : Type 0} → (F → Refusal) → Result A F → Result A Refusal
or_refused refusal (Ok a) = Ok a
or_refused refusal (Err fault) = Err (refusal fault)
