-- `wkt GRIDS JOB`: its words, its files and its answer. Own choice of this project.
use Rattle.std.specs.Prelude.{ℕ, List, [], ◌∷◌, Option, Some, None, Result, Ok}
use Rattle.ldp_quantity.specs.Results.{◌>>=◌}
use Rattle.ldp_io.specs.Shelf.{Files}
use Rattle.ldp_message.specs.declared.file_role.FileRole.TheVariants as roles
use Rattle.ldp_message.specs.declared.refusal.Refusal.{Refusal}
use Rattle.ldp_answer.specs.Wkt.{wkt_over}
use Rattle.ldp_answer.specs.declared.answer.Answer.{Answer}
use Rattle.ldp_cli.specs.Readings.{grids_read, job_read}
use Rattle.ldp_cli.specs.Files.{Asked}

-- the names of the files
pub record WktRequest : Type 0 where
  pub grids : List ℕ
  pub job : List ℕ

-- the words after `wkt`
abbrev pub wkt_request : List (List ℕ) → Option WktRequest
wkt_request (grids ∷ job ∷ []) = Some record { grids = grids; job = job }
wkt_request _ = None

-- the files to read, in this order: design grids, job
abbrev pub wkt_files : WktRequest → List Asked
wkt_files asked =
    record { role = roles.Grids; name = asked.grids }
    ∷ record { role = roles.Job; name = asked.job }
    ∷ []

-- what `wkt` answers over the files by their names, or its refusal
abbrev pub wkt_answer : WktRequest → Files → Result Answer Refusal
wkt_answer asked files = do
  grids ← grids_read (files asked.grids)
  job ← job_read (files asked.job)
  Ok (wkt_over grids.grids.families grids.hash job)
