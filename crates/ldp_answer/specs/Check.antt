-- What `check` and `upgrade` answer over cells, design grids and a job. Own choice of this project.
use Rattle.std.specs.Prelude.{ℕ, List, false, unsigned_abs, Option, Some, None, codes}
use Rattle.ldp_design.specs.declared.family.Family.{Family}
use Rattle.ldp_cells.specs.Cells.{CellList}
use Rattle.ldp_problem.specs.Problem.{Problem}
use Rattle.ldp_answer.specs.Problem.{problem_over}
use Rattle.ldp_job.specs.declared.names.Names.{Names}
use Rattle.ldp_job.specs.declared.share.Share.{Share}
use Rattle.ldp_job.specs.declared.job.Job.{Job}
use Rattle.ldp_job.specs.Texts.{job_text}
use Rattle.ldp_check.specs.Verdicts.{verdict_of}
use Rattle.ldp_check.specs.declared.verdict.Verdict.{Verdict}
use Rattle.ldp_check.specs.declared.verdict.Verdict.TheVariants as verdicts
use Rattle.ldp_answer.specs.Rejection.{rejection}
use Rattle.ldp_answer.specs.declared.answer.Answer.{Answer}

-- the tolerance of a job
abbrev pub tolerance_of : Option Share → Option ℕ
tolerance_of None = None
tolerance_of (Some share) = Some (unsigned_abs share.tolerance)

-- the problem that a job speaks of
abbrev pub job_problem : CellList → List Family → Job → Problem
job_problem list families job = problem_over families list.cells (tolerance_of job.share)

-- the verdict on a job; the names are the hashes of the three files
abbrev pub verdict_over : CellList → List Family → Names → Job → Verdict
verdict_over list families names job =
    verdict_of (job_problem list families job) list names job

-- the line `accepted`, or a rejection with the reason
abbrev pub check_text : Verdict → Answer
check_text verdicts.Accepted = record { rejected = false; text = codes "accepted\n" }
check_text (verdicts.Rejected reason) = rejection reason

-- what `check` answers; the names are the hashes of the three files that were read
abbrev pub check_over : CellList → List Family → Names → Job → Answer
check_over list families names job = check_text (verdict_over list families names job)

-- a job that names its files
abbrev pub named : Names → Job → Job
named names job = record job { names = Some names }

-- the text of the job with its files named if it was accepted, else a rejection with the reason
abbrev pub upgrade_text : Names → Job → Verdict → Answer
upgrade_text names job verdicts.Accepted =
    record { rejected = false; text = job_text (named names job) }
upgrade_text names job (verdicts.Rejected reason) = rejection reason

-- what `upgrade` answers; the names are the hashes of the three files that were read
abbrev pub upgrade_over : CellList → List Family → Names → Job → Answer
upgrade_over list families names job =
    upgrade_text names job (verdict_over list families names job)
