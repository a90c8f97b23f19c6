-- The text that `design` prints, read as a job over the same files.
use Rattle.std.proofs.Common.{◌≡◌, false, ap, ◌∙◌}
use Rattle.std.proofs.Common.{Ok, Option, Some, None, IfSome, option_map}
use Rattle.std.specs.Prelude.{unsigned_abs}
use Rattle.ldp_io.specs.Shelf.{Files}
use Rattle.ldp_cells.specs.Cells.{CellList}
use Rattle.ldp_job.specs.Texts.{job_text}
use Rattle.ldp_answer.specs.Cells.{cells_read}
use Rattle.ldp_answer.specs.Check.{check_text}
use Rattle.ldp_answer.specs.Design.{design_over, IsAcceptedText}
use Rattle.ldp_answer.specs.declared.answer.Answer.{Answer}
use Rattle.ldp_cli.specs.Readings.{job_read}
use Rattle.ldp_cli.specs.Files.{Gives}
use Rattle.ldp_cli.specs.ProblemFiles.{problem_read}
use Rattle.ldp_cli.specs.Design.{DesignRequest, IsCertified}
use Rattle.ldp_cli.specs.declared.problem_files.ProblemFiles.{ProblemFiles}
use Rattle.ldp_cli.proofs.Upgraded.{same_problem, short_read}

is_found : (asked : DesignRequest) (files : Files) (problem : ProblemFiles) (list : CellList)
    (answer : Answer) → problem_read asked.problem files ≡ Ok problem
    → cells_read problem.zone problem.heights ≡ Ok list
    → design_over list problem.grids.families problem.names asked.limits.budget
    (option_map unsigned_abs asked.limits.tolerance) ≡ Ok answer
    → IsAcceptedText list problem.grids.families problem.names answer.text → answer.rejected ≡ false
    → IsCertified asked files
is_found asked files problem list answer e f g h done = record {
  text = answer.text;
  is_printed = rw (e, f)
      (g ∙ ap (λ rejected. Ok record { rejected = rejected; text = answer.text }) done);
  is_accepted = λ again later same job_is.
      let read : job_read (later again.job) ≡ Ok h.accepted =
      ap job_read (job_is ∙ h.same)
      ∙ short_read (job_text h.accepted) h.accepted h.is.short h.is.read in
      rw (same_problem asked.problem again.problem files later same, e, read, f)
      (ap (λ verdict. Ok (check_text verdict)) h.is.verdict);
}

-- the same where the files are told
pub told_found : (asked : DesignRequest) (files : Option Files) (problem : ProblemFiles)
    (list : CellList) (answer : Answer)
    → IfSome files (λ f. Gives (Ok problem) (problem_read asked.problem f))
    → cells_read problem.zone problem.heights ≡ Ok list
    → design_over list problem.grids.families problem.names asked.limits.budget
    (option_map unsigned_abs asked.limits.tolerance) ≡ Ok answer
    → IsAcceptedText list problem.grids.families problem.names answer.text → answer.rejected ≡ false
    → IfSome files (λ f. IsCertified asked f)
told_found asked None problem list answer told e f g done = tt
told_found asked (Some files) problem list answer told e f g done =
    is_found asked files problem list answer told e f g done
