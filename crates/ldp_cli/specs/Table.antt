-- `table ZONE HEIGHTS GRIDS JOB` and the same with `--json`: the words and the answer. Own choice
-- of this project.
use Rattle.std.specs.Prelude.{ℕ, List, [], ◌∷◌, codes, bytes_eq, if◌then◌else◌}
use Rattle.std.specs.Prelude.{Option, Some, None, option_map, Result, Ok}
use Rattle.ldp_quantity.specs.Results.{◌>>=◌}
use Rattle.ldp_io.specs.Shelf.{Files}
use Rattle.ldp_message.specs.declared.refusal.Refusal.{Refusal}
use Rattle.ldp_answer.specs.Table.{table_over}
use Rattle.ldp_answer.specs.declared.answer.Answer.{Answer}
use Rattle.ldp_answer.specs.declared.form.TableForm.{TableForm}
use Rattle.ldp_answer.specs.declared.form.TableForm.TheVariants.{Lines, Json}
use Rattle.ldp_cli.specs.Files.{Asked}
use Rattle.ldp_cli.specs.Certificate.{JobRequest, job_files, certificate_read}

-- the names of the files, and the form of the table
pub record TableRequest : Type 0 where
  pub job : JobRequest
  pub form : TableForm

-- the form of the words after the names of the files
abbrev pub form_of : List (List ℕ) → Option TableForm
form_of [] = Some Lines
form_of (option ∷ []) = if bytes_eq option (codes "--json") then Some Json else None
form_of _ = None

-- the words after `table`
abbrev pub table_request : List (List ℕ) → Option TableRequest
table_request (zone ∷ heights ∷ grids ∷ job ∷ options) =
    option_map
    (λ form. record {
      job = record {
        problem = record { zone = zone; heights = heights; grids = grids };
        job = job;
      };
      form = form;
    })
    (form_of options)
table_request _ = None

-- the files to read, in this order: zone, heights, design grids, job
abbrev pub table_files : TableRequest → List Asked
table_files asked = job_files asked.job

-- what `table` answers over the files by their names, or its refusal
abbrev pub table_answer : TableRequest → Files → Result Answer Refusal
table_answer asked files = do
  read ← certificate_read asked.job files
  Ok (table_over asked.form read.cells read.grids.families read.names read.job)
