-- The certificate of the best design, and that it is accepted.
use Rattle.std.specs.Prelude.{◌≡◌, ◌≤◌, ◌⊎◌, ℕ, pos, Option, None, Some, option_map}
use Rattle.ldp_design.specs.Families.{AreGrids}
use Rattle.ldp_design.specs.Forests.{IsWellShaped}
use Rattle.ldp_design.specs.Limits.{most_nodes}
use Rattle.ldp_cells.specs.Cells.{CellList}
use Rattle.ldp_problem.specs.Problem.{Problem, IsSound}
use Rattle.ldp_problem.specs.Costs.{worst_cell}
use Rattle.ldp_job.specs.declared.names.Names.{Names}
use Rattle.ldp_job.specs.declared.share.Share.{Share}
use Rattle.ldp_job.specs.declared.job.Job.{Job}
use Rattle.ldp_check.specs.Reports.{report_of}
use Rattle.ldp_check.specs.Printed.{SameTolerance}
use Rattle.ldp_check.specs.Verdicts.{verdict_of}
use Rattle.ldp_check.specs.declared.verdict.Verdict.TheVariants.{Accepted}
use Rattle.ldp_optimum.specs.Best.{Ranked, best}
use Rattle.ldp_optimum.specs.Forest.{forest, needed}

-- where cells beyond a tolerance are counted, their number and the tolerance
abbrev pub share_of : Option ℕ → ℕ → Option Share
share_of tolerance over = option_map (λ t. record { over = over; tolerance = pos t }) tolerance

-- the certificate of a design: the names of these files or none, the design, its cost, its report
-- at the first cell of its worst distortion with the number of nodes of the canonical forest, and
-- that forest
pub record IsCertificateOf (p : Problem) (list : CellList) (present : Names) (x : Ranked)
    (job : Job) : Type 0 where
  pub names : (job.names ≡ None) ⊎ (job.names ≡ Some present)
  pub design : job.design ≡ x.design
  pub worst : job.worst ≡ pos x.cost.value
  pub share : job.share ≡ share_of p.tolerance x.cost.over
  pub report : report_of p.families list x.design (pos x.cost.value) (worst_cell p x.design)
      (needed p) ≡ Some job.report
  pub forest : job.forest ≡ forest p

-- the certificate of the best design is accepted
abbrev pub BestAreAccepted : Type 0
BestAreAccepted = (p : Problem) (list : CellList) (names : Names) (x : Ranked) (job : Job)
    → IsSound p → AreGrids p.families → best p ≡ Some x → IsCertificateOf p list names x job
    → verdict_of p list names job ≡ Accepted

-- its forest is well shaped where it has no more nodes than a forest may have
abbrev pub BestAreShaped : Type 0
BestAreShaped = (p : Problem) (list : CellList) (names : Names) (x : Ranked) (job : Job)
    → AreGrids p.families → needed p ≤ most_nodes → IsCertificateOf p list names x job
    → IsWellShaped job.forest

-- its tolerance is that of the problem
abbrev pub BestHaveTolerance : Type 0
BestHaveTolerance = (p : Problem) (list : CellList) (names : Names) (x : Ranked) (job : Job)
    → IsCertificateOf p list names x job → SameTolerance p job.share
