-- What `sample N` answers. Own choice of this project.
use Rattle.std.specs.Prelude.{◌≡◌, ℕ, false, List, ◌++◌, take, drop, replicate, codes, decimal}
use Rattle.std.specs.Prelude.{None, Result, Ok}
use Rattle.ldp_quantity.specs.Results.{◌>>=◌}
use Rattle.ldp_spelling.specs.Pieces.{lines, text_of}
use Rattle.ldp_zone.specs.Grammar.{zone_of}
use Rattle.ldp_heights.specs.Reading.{heights_of}
use Rattle.ldp_cells.specs.Cells.{CellList}
use Rattle.ldp_design.specs.Limits.{most_budget}
use Rattle.ldp_job.specs.declared.names.Names.{Names}
use Rattle.ldp_job.specs.declared.job.Job.{Job}
use Rattle.ldp_job.specs.Texts.{job_text}
use Rattle.ldp_message.specs.Refusal.{or_refused}
use Rattle.ldp_message.specs.declared.refusal.Refusal.{Refusal}
use Rattle.ldp_message.specs.declared.refusal.Refusal.TheVariants as refusals
use Rattle.ldp_answer.specs.Cells.{cells_read}
use Rattle.ldp_answer.specs.Check.{verdict_over, check_text}
use Rattle.ldp_answer.specs.Design.{job_over}
use Rattle.ldp_answer.specs.SampleInputs.{sample_zone, sample_grid, sample_families}
use Rattle.ldp_answer.specs.declared.answer.Answer.{Answer}

-- hashes for the checker; a job of version 1 names no files, so its verdict is the same whatever
-- they are
abbrev pub no_files : Names
no_files =
    record { zone = replicate 32 0; heights = replicate 32 0; grids = replicate 32 0 }

-- the cells of the zone with the heights of the grid, both read from their texts
abbrev pub sample_cells : ℕ → Result CellList Refusal
sample_cells n = do
  zone ← or_refused refusals.RefusedZone (zone_of sample_zone)
  heights ← or_refused refusals.RefusedHeights (heights_of (sample_grid n))
  cells_read zone heights

-- lines 2 to 12 of a text
abbrev pub report_lines : List ℕ → List ℕ
report_lines text = text_of (take 11 (drop 1 (lines text)))

-- `sample <N>`
abbrev pub sample_line : ℕ → List ℕ
sample_line n = codes "sample " ++ (decimal n ++ codes "\n")

-- that line, lines 2 to 12 of the job, and the line that `check` prints
abbrev pub sample_text : ℕ → Job → List ℕ → List ℕ
sample_text n j checked = sample_line n ++ (report_lines (job_text j) ++ checked)

-- the certificate of the best design names no files; what is printed of it ends with its verdict
abbrev pub sample_over : ℕ → Result Answer Refusal
sample_over n = do
  list ← sample_cells n
  j ← job_over list (sample_families n) None most_budget None
  Ok record {
    rejected = false;
    text = sample_text n j (check_text (verdict_over list (sample_families n) no_files j)).text;
  }

-- the last line of the text is `accepted`
pub record EndsAccepted (text : List ℕ) : Type 0 where
  pub front : List ℕ
  pub ends : text ≡ front ++ codes "\naccepted\n"
