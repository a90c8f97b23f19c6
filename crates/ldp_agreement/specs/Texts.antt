-- The certificate of the best design has a text, which is read back and is short.
use Rattle.std.specs.Prelude.{◌≡◌, ◌<◌, ◌≤◌, length, Some, IfSome, Ok}
use Rattle.ldp_design.specs.Families.{AreGrids}
use Rattle.ldp_design.specs.Limits.{most_budget, most_tolerance}
use Rattle.ldp_cells.specs.Cells.{CellList, most_cells}
use Rattle.ldp_problem.specs.Problem.{Problem}
use Rattle.ldp_job.specs.declared.names.Names.{Names}
use Rattle.ldp_job.specs.declared.job.Job.{Job}
use Rattle.ldp_job.specs.Values.{AreNames, IsWorst, IsReport, IsJob}
use Rattle.ldp_job.specs.Texts.{job_text}
use Rattle.ldp_job.specs.Reading.{job}
use Rattle.ldp_optimum.specs.Best.{Ranked, best}
use Rattle.ldp_optimum.specs.Forest.{needed}
use Rattle.ldp_agreement.specs.Certificates.{IsCertificateOf}

-- what certificates ask of a problem, so that they have a text: there is a cell, and neither
-- the cells nor the nodes are too many; the tolerance, in units of 10^-15, is at most 1
pub record IsPrintable (p : Problem) : Type 0 where
  pub grids : AreGrids p.families
  pub some_cell : 0 < p.cells
  pub few_cells : p.cells ≤ most_cells
  pub few_nodes : needed p ≤ most_budget
  pub tolerance : IfSome p.tolerance (λ t. t ≤ most_tolerance)

-- what they ask of their own names, worst distortion and report
pub record AreValues (j : Job) : Type 0 where
  pub names : IfSome j.names AreNames
  pub worst : IsWorst j.worst
  pub report : IsReport j.report

-- the certificate of the best design has a text
abbrev pub BestHaveTexts : Type 0
BestHaveTexts = (p : Problem) (list : CellList) (present : Names) (x : Ranked) (j : Job)
    → IsPrintable p → AreValues j → best p ≡ Some x → IsCertificateOf p list present x j
    → IsJob j

-- it is read back, and it is short enough for a file
abbrev pub BestAreReadBack : Type 0
BestAreReadBack = (p : Problem) (list : CellList) (present : Names) (x : Ranked) (j : Job)
    → IsPrintable p → AreValues j → best p ≡ Some x → IsCertificateOf p list present x j
    → (job (job_text j) ≡ Ok j) × (length (job_text j) ≤ 128_000_000)
