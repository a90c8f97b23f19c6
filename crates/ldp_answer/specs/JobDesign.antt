-- What is asked of a job before its design is shown: its files, and that its design is admissible.
-- Own choice of this project.
use Rattle.std.specs.Prelude.{List, Option, Some, None, if◌then◌else◌}
use Rattle.ldp_design.specs.declared.family.Family.{Family}
use Rattle.ldp_design.specs.declared.design.Design.{Design}
use Rattle.ldp_design.specs.Families.{family_of}
use Rattle.ldp_design.specs.Designs.{is_admitted}
use Rattle.ldp_job.specs.declared.names.Role.{Role}
use Rattle.ldp_check.specs.declared.reason.Reason.TheVariants.{OtherInput}
use Rattle.ldp_answer.specs.Rejection.{rejection}
use Rattle.ldp_answer.specs.declared.answer.Answer.{Answer}

-- the answer; a rejection if a file is not the one that the job names
abbrev pub over_files : Option Role → Answer → Answer
over_files None answer = answer
over_files (Some which) answer = rejection (OtherInput which)

-- the family of a design, where the design is admissible
abbrev pub admitted_family : List Family → Design → Option Family
admitted_family families d =
    if is_admitted families d then family_of families d.family else None
