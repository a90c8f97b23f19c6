-- `design ZONE HEIGHTS GRIDS`, with `--budget N`, `--share PPM` or both: its words and its answer.
-- Own choice of this project.
use Rattle.std.specs.Prelude.{◌≡◌, ℕ, unsigned_abs, List, [], ◌∷◌, false, Option, None, option_map}
use Rattle.std.specs.Prelude.{Result, Ok}
use Rattle.ldp_quantity.specs.Results.{◌>>=◌}
use Rattle.ldp_io.specs.Shelf.{Files}
use Rattle.ldp_message.specs.declared.refusal.Refusal.{Refusal}
use Rattle.ldp_check.specs.declared.verdict.Verdict.TheVariants.{Accepted}
use Rattle.ldp_answer.specs.Cells.{cells_read}
use Rattle.ldp_answer.specs.Check.{check_text}
use Rattle.ldp_answer.specs.Design.{design_over}
use Rattle.ldp_answer.specs.declared.answer.Answer.{Answer}
use Rattle.ldp_cli.specs.Limits.{limits_in}
use Rattle.ldp_cli.specs.Files.{Asked}
use Rattle.ldp_cli.specs.ProblemFiles.{ProblemRequest, problem_files, problem_read}
use Rattle.ldp_cli.specs.Certificate.{JobRequest, HaveSameFiles}
use Rattle.ldp_cli.specs.Check.{check_answer}
use Rattle.ldp_cli.specs.declared.limits.Limits.{Limits}

-- the names of the files, and what the words after them say
pub record DesignRequest : Type 0 where
  pub problem : ProblemRequest
  pub limits : Limits

-- the words after `design`
abbrev pub design_request : List (List ℕ) → Option DesignRequest
design_request (zone ∷ heights ∷ grids ∷ options) =
    option_map (λ limits. record {
      problem = record { zone = zone; heights = heights; grids = grids };
      limits = limits;
    }) (limits_in options)
design_request _ = None

-- the files to read, in this order: zone, heights, design grids
abbrev pub design_files : DesignRequest → List Asked
design_files asked = problem_files asked.problem []

-- what `design` answers over the files by their names, or its refusal
abbrev pub design_answer : DesignRequest → Files → Result Answer Refusal
design_answer asked files = do
  problem ← problem_read asked.problem files
  list ← cells_read problem.zone problem.heights
  design_over list problem.grids.families problem.names asked.limits.budget
      (option_map unsigned_abs asked.limits.tolerance)

-- the printed text, taken as a job over the same three files, whatever the names of the files are,
-- is accepted
pub record IsCertified (asked : DesignRequest) (files : Files) : Type 0 where
  pub text : List ℕ
  pub is_printed : design_answer asked files ≡ Ok record { rejected = false; text = text }
  pub is_accepted : (again : JobRequest) (later : Files)
      → HaveSameFiles asked.problem files again.problem later → later again.job ≡ text
      → check_answer again later ≡ Ok (check_text Accepted)
