-- How a job that is not accepted is told: by the reason's name and its values, each after a blank.
-- Own choice of this project.
use Rattle.std.specs.Prelude.{ℕ, true, List, ◌++◌, decimal, codes}
use Rattle.std.specs.Fmt.{signed_decimal}
use Rattle.ldp_job.specs.declared.names.Role.{Role}
use Rattle.ldp_job.specs.declared.names.Role.TheVariants as roles
use Rattle.ldp_check.specs.declared.reason.Reason.{Reason}
use Rattle.ldp_check.specs.declared.reason.Reason.TheVariants as reasons
use Rattle.ldp_answer.specs.declared.answer.Answer.{Answer}

-- a reason names so the file that is not the one of the certificate
abbrev pub role_text : Role → List ℕ
role_text roles.Zone = codes "Zone"
role_text roles.Heights = codes "Heights"
role_text roles.Grids = codes "Grids"

-- two values
abbrev pub two_values : List ℕ → List ℕ → List ℕ
two_values first second = first ++ (codes " " ++ second)

-- a reason's name and its values: a cell counts from 0, a line and a family from 1, and a
-- distortion is in units of 10^-15
abbrev pub reason_text : Reason → List ℕ
reason_text (reasons.OtherInput which) = codes "OtherInput " ++ role_text which
reason_text reasons.NotAdmissible = codes "NotAdmissible"
reason_text (reasons.DesignUnusable cell) = codes "DesignUnusable " ++ decimal cell
reason_text (reasons.OverDiffers printed actual) =
    codes "OverDiffers " ++ two_values (decimal printed) (decimal actual)
reason_text (reasons.WorstDiffers printed actual) =
    codes "WorstDiffers " ++ two_values (signed_decimal printed) (signed_decimal actual)
reason_text (reasons.ReportDiffers line) = codes "ReportDiffers " ++ decimal line
reason_text (reasons.TreeOutOfPlace line) = codes "TreeOutOfPlace " ++ decimal line
reason_text (reasons.BadSplit line) = codes "BadSplit " ++ decimal line
reason_text (reasons.NoSuchCell line) = codes "NoSuchCell " ++ decimal line
reason_text (reasons.LeafOpen line low) =
    codes "LeafOpen " ++ two_values (decimal line) (signed_decimal low)
reason_text (reasons.ShareOpen line over low) =
    codes "ShareOpen " ++ two_values (decimal line) (two_values (decimal over) (signed_decimal low))
reason_text (reasons.NotUnusable line) = codes "NotUnusable " ++ decimal line
reason_text (reasons.FamilyMissing family) = codes "FamilyMissing " ++ decimal family

-- `rejected <reason>`
abbrev pub rejection : Reason → Answer
rejection reason = record {
  rejected = true;
  text = codes "rejected " ++ (reason_text reason ++ codes "\n");
}
