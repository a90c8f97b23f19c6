-- The verdict on a certificate: the first of the reasons against it, in this order. (Own choice of
-- this project.)
use Rattle.std.specs.Prelude.{◌≡◌, ℕ, pos, ◌+◌, ℤ, ◌==◌, not}
use Rattle.std.specs.Prelude.{List, [], ◌∷◌, Option, None, Some, option_map, option_and_then}
use Rattle.std.specs.Prelude.{IfSome}
use Rattle.std.specs.Bool.{then_some}
use Rattle.std.specs.Ordering.{int_eq}
use Rattle.ldp_design.specs.declared.design.Design.{Design}
use Rattle.ldp_design.specs.Families.{AreGrids}
use Rattle.ldp_design.specs.Designs.{IsAdmitted, is_admitted}
use Rattle.ldp_design.specs.Forests.{node_count, start, IsWellShaped}
use Rattle.ldp_problem.specs.Problem.{Problem, IsSound}
use Rattle.ldp_problem.specs.Pairs.{AtMost}
use Rattle.ldp_problem.specs.Costs.{IsUsable, first_undefined, cost, worst_cell}
use Rattle.ldp_cells.specs.Cells.{CellList}
use Rattle.ldp_job.specs.declared.names.Names.{Names}
use Rattle.ldp_job.specs.declared.report.Report.{Report}
use Rattle.ldp_job.specs.declared.share.Share.{Share}
use Rattle.ldp_job.specs.declared.job.Job.{Job}
use Rattle.ldp_check.specs.declared.reason.Reason.{Reason}
use Rattle.ldp_check.specs.declared.reason.Reason.TheVariants.{OtherInput, NotAdmissible}
use Rattle.ldp_check.specs.declared.reason.Reason.TheVariants.{DesignUnusable, OverDiffers}
use Rattle.ldp_check.specs.declared.reason.Reason.TheVariants.{WorstDiffers, ReportDiffers}
use Rattle.ldp_check.specs.declared.verdict.Verdict.{Verdict}
use Rattle.ldp_check.specs.declared.verdict.Verdict.TheVariants.{Accepted, Rejected}
use Rattle.ldp_check.specs.Reports.{report_of, differing_line}
use Rattle.ldp_check.specs.Inputs.{other_input}
use Rattle.ldp_check.specs.Printed.{printed, report_line, forest_line, SameTolerance}
use Rattle.ldp_check.specs.Entries.{first_fault}

-- it names another file
abbrev pub input_differs : Names → Job → Option Reason
input_differs names job = option_map OtherInput (other_input names job.names)

-- its design is not admissible
abbrev pub not_admitted : Problem → Job → Option Reason
not_admitted p job = then_some (not (is_admitted p.families job.design)) NotAdmissible

-- its design is undefined at a cell: the first one
abbrev pub not_usable : Problem → Job → Option Reason
not_usable p job = option_map DesignUnusable (first_undefined p job.design)

-- a printed number of cells beyond the tolerance that is not the actual one
abbrev pub other_over : Option Share → ℕ → Option Reason
other_over None over = None
other_over (Some share) over =
    then_some (not (share.over == over)) (OverDiffers share.over over)

-- it prints another number of them than its design has
abbrev pub over_differs : Problem → Job → Option Reason
over_differs p job = other_over job.share (cost p job.design).over

-- a printed worst distortion that is not the actual one
abbrev pub other_worst : ℤ → ℤ → Option Reason
other_worst worst actual = then_some (not (int_eq worst actual)) (WorstDiffers worst actual)

-- it prints another worst distortion than its design has
abbrev pub worst_differs : Problem → Job → Option Reason
worst_differs p job = other_worst job.worst (pos (cost p job.design).value)

-- the report of the design at the first cell of its worst distortion
abbrev pub actual_report : Problem → CellList → Job → Option Report
actual_report p list job =
    report_of p.families list job.design (pos (cost p job.design).value) (worst_cell p job.design)
    (node_count job.forest)

-- the first line of a printed report that is not that of the actual one
abbrev pub other_report : Option Names → Report → Option Report → Option Reason
other_report names report actual =
    option_map (λ line. ReportDiffers (report_line names + line))
    (option_and_then (differing_line report) actual)

-- it prints another report than its design has
abbrev pub report_differs : Problem → CellList → Job → Option Reason
report_differs p list job = other_report job.names job.report (actual_report p list job)

-- its forest has a fault
abbrev pub forest_fault : Problem → Job → Option Reason
forest_fault p job =
    first_fault p (printed job) (forest_line job.names) job.forest start

-- the first that is there
abbrev pub first_some : List (Option Reason) → Option Reason
first_some [] = None
first_some (None ∷ reasons) = first_some reasons
first_some (Some reason ∷ reasons) = Some reason

-- the first reason against a certificate
abbrev pub reason_against : Problem → CellList → Names → Job → Option Reason
reason_against p list names job =
    first_some (input_differs names job ∷ not_admitted p job ∷ not_usable p job
    ∷ over_differs p job ∷ worst_differs p job ∷ report_differs p list job ∷ forest_fault p job
    ∷ [])

-- accepted where there is no reason
abbrev pub verdict_by : Option Reason → Verdict
verdict_by None = Accepted
verdict_by (Some reason) = Rejected reason

-- the verdict on a certificate over these cells, where the files have these hashes
abbrev pub verdict_of : Problem → CellList → Names → Job → Verdict
verdict_of p list names job = verdict_by (reason_against p list names job)

-- what an accepted certificate shows: its design is admissible and usable, its cost is the printed
-- one, and no usable admissible design has a smaller cost
pub record IsProved (p : Problem) (job : Job) : Type 0 where
  pub admissible : IsAdmitted p.families job.design
  pub usable : IsUsable p job.design
  pub worst : job.worst ≡ pos (cost p job.design).value
  pub over : IfSome job.share (λ share. share.over ≡ (cost p job.design).over)
  pub smallest : (d : Design) → IsAdmitted p.families d → IsUsable p d
      → AtMost (cost p job.design) (cost p d)

-- a certificate that is accepted shows it
abbrev pub AcceptedAreProved : Type 0
AcceptedAreProved = (p : Problem) (list : CellList) (names : Names) (job : Job)
    → IsSound p → AreGrids p.families → SameTolerance p job.share → IsWellShaped job.forest
    → verdict_of p list names job ≡ Accepted → IsProved p job
