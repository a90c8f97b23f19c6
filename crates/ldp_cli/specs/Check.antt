-- `check ZONE HEIGHTS GRIDS JOB` and `upgrade ZONE HEIGHTS GRIDS JOB`: their answers. Own choice of
-- this project.
use Rattle.std.specs.Prelude.{◌≡◌, ℕ, List, false, Result, Ok}
use Rattle.ldp_quantity.specs.Results.{◌>>=◌}
use Rattle.ldp_io.specs.Shelf.{Files}
use Rattle.ldp_message.specs.declared.refusal.Refusal.{Refusal}
use Rattle.ldp_check.specs.declared.verdict.Verdict.TheVariants.{Accepted}
use Rattle.ldp_answer.specs.Check.{check_text, check_over, upgrade_over}
use Rattle.ldp_answer.specs.declared.answer.Answer.{Answer}
use Rattle.ldp_cli.specs.Certificate.{JobRequest, certificate_read, HaveSameFiles}

-- whether the job is accepted, and if not, the first reason
abbrev pub check_answer : JobRequest → Files → Result Answer Refusal
check_answer asked files = do
  read ← certificate_read asked files
  Ok (check_over read.cells read.grids.families read.names read.job)

-- the text of a job that is accepted, with the hashes of the three files
abbrev pub upgrade_answer : JobRequest → Files → Result Answer Refusal
upgrade_answer asked files = do
  read ← certificate_read asked files
  Ok (upgrade_over read.cells read.grids.families read.names read.job)

-- the text of an accepted job with its files named: as a job over the same three files, whatever
-- the names of the files are, it is accepted, and upgraded to itself
pub record IsUpgraded (asked : JobRequest) (files : Files) : Type 0 where
  pub text : List ℕ
  pub is_printed : upgrade_answer asked files ≡ Ok record { rejected = false; text = text }
  pub is_kept : (again : JobRequest) (later : Files)
      → HaveSameFiles asked.problem files again.problem later → later again.job ≡ text
      → (check_answer again later ≡ Ok (check_text Accepted))
      × (upgrade_answer again later ≡ Ok record { rejected = false; text = text })
