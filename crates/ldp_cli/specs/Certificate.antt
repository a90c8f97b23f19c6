-- The four files of a command over a job: those of a problem, and the job. Own choice of this
-- project.
use Rattle.std.specs.Prelude.{◌≡◌, ℕ, List, [], ◌∷◌, Option, Some, None, Result, Ok}
use Rattle.ldp_quantity.specs.Results.{◌>>=◌}
use Rattle.ldp_io.specs.Shelf.{Files}
use Rattle.ldp_check.specs.Verdicts.{IsProved}
use Rattle.ldp_message.specs.declared.file_role.FileRole.TheVariants as roles
use Rattle.ldp_message.specs.declared.refusal.Refusal.{Refusal}
use Rattle.ldp_answer.specs.Cells.{cells_read}
use Rattle.ldp_answer.specs.Check.{job_problem}
use Rattle.ldp_cli.specs.Readings.{job_read}
use Rattle.ldp_cli.specs.Files.{Asked}
use Rattle.ldp_cli.specs.ProblemFiles.{ProblemRequest, problem_files, problem_read}
use Rattle.ldp_cli.specs.declared.certificate.Certificate.{Certificate}

-- the names of the files
pub record JobRequest : Type 0 where
  pub problem : ProblemRequest
  pub job : List ℕ

-- the words after the name of a command over a job
abbrev pub job_request : List (List ℕ) → Option JobRequest
job_request (zone ∷ heights ∷ grids ∷ job ∷ []) = Some record {
  problem = record { zone = zone; heights = heights; grids = grids };
  job = job;
}
job_request _ = None

-- the files to read, in this order: zone, heights, design grids, job
abbrev pub job_files : JobRequest → List Asked
job_files asked =
    problem_files asked.problem (record { role = roles.Job; name = asked.job } ∷ [])

-- what is read of the four files, or the first refusal; the cells are formed once all files are
-- read
abbrev pub certificate_read : JobRequest → Files → Result Certificate Refusal
certificate_read asked files = do
  problem ← problem_read asked.problem files
  job ← job_read (files asked.job)
  list ← cells_read problem.zone problem.heights
  Ok record { cells = list; grids = problem.grids; names = problem.names; job = job }

-- two requests ask for the same zone, heights and design grids
pub record HaveSameFiles (asked : ProblemRequest) (files : Files) (again : ProblemRequest)
    (later : Files) : Type 0 where
  pub zone : later again.zone ≡ files asked.zone
  pub heights : later again.heights ≡ files asked.heights
  pub grids : later again.grids ≡ files asked.grids

-- the job's design is admissible and usable, its cost is the printed one, and no usable admissible
-- design has a smaller cost
pub record IsShown (asked : JobRequest) (files : Files) : Type 0 where
  pub certificate : Certificate
  pub is_read : certificate_read asked files ≡ Ok certificate
  pub proved : IsProved
      (job_problem certificate.cells certificate.grids.families certificate.job) certificate.job
