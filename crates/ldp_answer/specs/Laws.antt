-- The law of `upgrade`: its text is a job that is accepted over the same files, and upgraded to
-- itself.
use Rattle.std.specs.Prelude.{◌≡◌, ◌≤◌, ℕ, List, length, false, Ok}
use Rattle.ldp_design.specs.declared.family.Family.{Family}
use Rattle.ldp_cells.specs.Cells.{CellList}
use Rattle.ldp_job.specs.Reading.{job}
use Rattle.ldp_job.specs.Values.{AreNames, IsJob}
use Rattle.ldp_job.specs.declared.names.Names.{Names}
use Rattle.ldp_job.specs.declared.job.Job.{Job}
use Rattle.ldp_check.specs.declared.verdict.Verdict.TheVariants.{Accepted}
use Rattle.ldp_answer.specs.Check.{check_text, check_over, named, upgrade_over}

-- the text of a job with its files named, in place of the job
pub record IsUpgraded (list : CellList) (families : List Family) (names : Names) (j : Job)
    (text : List ℕ) : Type 0 where
  pub short : length text ≤ 128_000_000
  pub is_read : job text ≡ Ok (named names j)
  pub accepted : check_over list families names (named names j) ≡ check_text Accepted
  pub same : upgrade_over list families names (named names j)
      ≡ record { rejected = false; text = text }

-- what `upgrade` prints is read back, accepted over the same files, and upgraded to itself
abbrev pub UpgradedAreAccepted : Type 0
UpgradedAreAccepted = (list : CellList) (families : List Family) (names : Names) (j : Job)
    (text : List ℕ) → AreNames names → IsJob j
    → upgrade_over list families names j ≡ record { rejected = false; text = text }
    → IsUpgraded list families names j text
