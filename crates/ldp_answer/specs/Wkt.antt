-- What `wkt` answers over design grids and a job. Own choice of this project.
use Rattle.std.specs.Prelude.{ℕ, false, List, Option, Some, None, bytes_eq, if◌then◌else◌}
use Rattle.ldp_design.specs.declared.family.Family.{Family}
use Rattle.ldp_design.specs.declared.design.Design.{Design}
use Rattle.ldp_job.specs.declared.names.Names.{Names}
use Rattle.ldp_job.specs.declared.names.Role.{Role}
use Rattle.ldp_job.specs.declared.names.Role.TheVariants.{Grids}
use Rattle.ldp_job.specs.declared.job.Job.{Job}
use Rattle.ldp_check.specs.declared.reason.Reason.TheVariants.{NotAdmissible}
use Rattle.ldp_wkt2.specs.Values.{crs_at}
use Rattle.ldp_wkt2.specs.Lines.{crs_text}
use Rattle.ldp_answer.specs.Rejection.{rejection}
use Rattle.ldp_answer.specs.JobDesign.{over_files, admitted_family}
use Rattle.ldp_answer.specs.declared.answer.Answer.{Answer}

-- the design grids, if the job names some with another hash; its other files are not looked at
abbrev pub other_grids : List ℕ → Option Names → Option Role
other_grids hash None = None
other_grids hash (Some named) = if bytes_eq hash named.grids then None else Some Grids

-- the line of a design's coordinate reference system
abbrev pub line_answer : Design → Option Family → Answer
line_answer d None = rejection NotAdmissible
line_answer d (Some f) = record { rejected = false; text = crs_text (crs_at f d) }

-- what `wkt` answers; the hash is that of the file of design grids
abbrev pub wkt_over : List Family → List ℕ → Job → Answer
wkt_over families hash job =
    over_files (other_grids hash job.names)
    (line_answer job.design (admitted_family families job.design))
