-- What `design` answers over cells and design grids. Own choice of this project.
use Rattle.std.specs.Prelude.{◌≡◌, ◌≤◌, ◌⊎◌, ℕ, pos, nat_lt, List, length, false}
use Rattle.std.specs.Prelude.{Option, Some, None, Result, Ok, Err, if◌then◌else◌}
use Rattle.ldp_quantity.specs.Results.{◌>>=◌}
use Rattle.ldp_design.specs.declared.family.Family.{Family}
use Rattle.ldp_cells.specs.Cells.{CellList}
use Rattle.ldp_problem.specs.Problem.{Problem}
use Rattle.ldp_problem.specs.Costs.{worst_cell}
use Rattle.ldp_answer.specs.Problem.{problem_over}
use Rattle.ldp_optimum.specs.Best.{Ranked, best}
use Rattle.ldp_optimum.specs.Forest.{forest, needed}
use Rattle.ldp_job.specs.declared.names.Names.{Names}
use Rattle.ldp_job.specs.declared.report.Report.{Report}
use Rattle.ldp_job.specs.declared.job.Job.{Job}
use Rattle.ldp_job.specs.Texts.{job_text}
use Rattle.ldp_job.specs.Reading.{job}
use Rattle.ldp_check.specs.Reports.{report_of}
use Rattle.ldp_check.specs.declared.verdict.Verdict.TheVariants.{Accepted}
use Rattle.ldp_agreement.specs.Certificates.{share_of}
use Rattle.ldp_message.specs.declared.refusal.Refusal.{Refusal}
use Rattle.ldp_message.specs.declared.refusal.Refusal.TheVariants as refusals
use Rattle.ldp_answer.specs.Check.{verdict_over}
use Rattle.ldp_answer.specs.declared.answer.Answer.{Answer}

-- the certificate of a design with its cost and its report: the hashes of the three files or none,
-- and the canonical forest
abbrev pub certificate : Problem → Option Names → Ranked → Report → Job
certificate p names x report = record {
  names = names;
  design = x.design;
  worst = pos x.cost.value;
  share = share_of p.tolerance x.cost.over;
  report = report;
  forest = forest p;
}

-- the certificate with a report; that of the best design is there, so the second case does not come
abbrev pub certificate_with : Problem → Option Names → Ranked → Option Report → Result Job Refusal
certificate_with p names x (Some report) = Ok (certificate p names x report)
certificate_with p names x None = Err refusals.NoUsableDesign

-- the certificate of the best design, if there is one: its report is that of the first cell of its
-- worst distortion, with the number of nodes of the forest
abbrev pub best_certificate : Problem → CellList → Option Names → Option Ranked → Result Job Refusal
best_certificate p list names (Some x) =
    certificate_with p names x
    (report_of p.families list x.design (pos x.cost.value) (worst_cell p x.design) (needed p))
best_certificate p list names None = Err refusals.NoUsableDesign

-- the certificate that a search with this budget finds
abbrev pub search_job : Problem → CellList → Option Names → ℕ → Result Job Refusal
search_job p list names budget =
    if nat_lt budget (needed p) then Err (refusals.BudgetSpent budget)
    else best_certificate p list names (best p)

-- the certificate over cells and design grids; the tolerance is in units of 10^-15
abbrev pub job_over : CellList → List Family → Option Names → ℕ → Option ℕ → Result Job Refusal
job_over list families names budget tolerance =
    search_job (problem_over families list.cells tolerance) list names budget

-- the text of the job that the search found
abbrev pub job_answer : Job → Answer
job_answer j = record { rejected = false; text = job_text j }

-- the text of the certificate, which names its files
abbrev pub design_over : CellList → List Family → Names → ℕ → Option ℕ → Result Answer Refusal
design_over list families names budget tolerance = do
  j ← job_over list families (Some names) budget tolerance
  Ok (job_answer j)

-- the files that are present are those of a job's names, or it has none
abbrev pub AreNamed : Option Names → Names → Type 0
AreNamed names present = (names ≡ None) ⊎ (names ≡ Some present)

-- the checker accepts the job over these cells, grids and hashes, and its text is read back to it
-- and is short enough for a file
pub record IsAcceptedJob (list : CellList) (families : List Family) (present : Names)
    (j : Job) : Type 0 where
  pub verdict : verdict_over list families present j ≡ Accepted
  pub read : job (job_text j) ≡ Ok j
  pub short : length (job_text j) ≤ 128_000_000

-- the text is that of such a job
pub record IsAcceptedText (list : CellList) (families : List Family) (names : Names)
    (text : List ℕ) : Type 0 where
  pub accepted : Job
  pub is : IsAcceptedJob list families names accepted
  pub same : text ≡ job_text accepted
