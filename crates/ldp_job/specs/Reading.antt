-- Reading a job: its value, or the first fault of its text.
use Rattle.std.specs.Prelude.{◌≡◌, ℕ, ◌+◌, ◌==◌, ◌||◌, List, [], ◌∷◌, length, Option, Some, None}
use Rattle.std.specs.Prelude.{Result, Ok, Err, codes, if◌then◌else◌}
use Rattle.ldp_quantity.specs.Results.{◌>>=◌}
use Rattle.ldp_spelling.specs.Pieces.{lines, words, ended}
use Rattle.ldp_design.specs.declared.node.Node.{Node}
use Rattle.ldp_job.specs.declared.fault.JobFault.{JobFault}
use Rattle.ldp_job.specs.declared.fault.JobFault.TheVariants.{NotAJob, Version, Trailing}
use Rattle.ldp_job.specs.declared.names.Names.{Names}
use Rattle.ldp_job.specs.declared.report.Report.{Report}
use Rattle.ldp_job.specs.declared.job.Job.{Job}
use Rattle.ldp_job.specs.Lines.{version_in, file_in, design_in, worst_in, kind_in, lat_in, lon_in}
use Rattle.ldp_job.specs.Lines.{azimuth_in, scale_in, ppm_in, at_in, cells_in, nodes_in}
use Rattle.ldp_job.specs.Faults.{Lines, line_by}
use Rattle.ldp_job.specs.Entries.{forest_at}
use Rattle.ldp_job.specs.Texts.{job_text}
use Rattle.ldp_job.specs.Values.{IsJob}

-- a version that can be read, 1 or 2, and the lines left; a fault if it is another one or none
abbrev pub known : Lines → Option ℕ → Result (ℕ × Lines) JobFault
known rest None = Err NotAJob
known rest (Some version) =
    if version == 1 || version == 2 then Ok (version, rest) else Err (Version version)

-- the version of the first line, and the lines left; without such a line the text is no job
abbrev pub version_as : Option (List ℕ × Lines) → Result (ℕ × Lines) JobFault
version_as None = Err NotAJob
version_as (Some line) = known line.1 (version_in (words line.0))

-- the version, 1 or 2, in line 1
unfoldable pub version_line : Lines → Result (ℕ × Lines) JobFault
version_line ls = version_as (ended ls)

-- the hashes of the three files, in lines 2 to 4
unfoldable pub hashes_at : Lines → Result (Names × Lines) JobFault
hashes_at ls = do
  zone ← line_by 2 (file_in (codes "zone")) ls
  heights ← line_by 3 (file_in (codes "heights")) zone.1
  grids ← line_by 4 (file_in (codes "grids")) heights.1
  Ok (record { zone = zone.0; heights = heights.0; grids = grids.0 }, grids.1)

-- the names, which version 1 has not
unfoldable pub names_at : ℕ → Lines → Result (Option Names × Lines) JobFault
names_at version ls =
    if version == 1 then Ok (None, ls) else (hashes_at ls >>= (λ names. Ok (Some names.0, names.1)))

-- what a user reads, in the nine lines from this one on
unfoldable pub report_at : ℕ → Lines → Result (Report × Lines) JobFault
report_at number ls = do
  kind ← line_by number kind_in ls
  lat ← line_by (number + 1) lat_in kind.1
  lon ← line_by (number + 2) lon_in lat.1
  azimuth ← line_by (number + 3) azimuth_in lon.1
  scale ← line_by (number + 4) scale_in azimuth.1
  ppm ← line_by (number + 5) ppm_in scale.1
  at ← line_by (number + 6) at_in ppm.1
  cells ← line_by (number + 7) cells_in at.1
  nodes ← line_by (number + 8) nodes_in cells.1
  Ok (
    record {
      kind = kind.0;
      lat = lat.0;
      lon = lon.0;
      azimuth = azimuth.0;
      scale = scale.0;
      ppm = ppm.0;
      row = at.0.0;
      col = at.0.1;
      cells = cells.0.0;
      missing = cells.0.1;
      nodes = nodes.0;
    },
    nodes.1,
  )

-- the number of the line `design`
abbrev pub design_number : Option Names → ℕ
design_number None = 2
design_number (Some names) = 5

-- the forest, behind whose last line nothing may stand
abbrev pub closed_by : ℕ → List Node → Lines → Result (List Node) JobFault
closed_by number forest [] = Err (Trailing (number + length forest + 1))
closed_by number forest ([] ∷ []) = Ok forest
closed_by number forest ((b ∷ bs) ∷ []) = Err (Trailing (number + length forest + 1))
closed_by number forest (line ∷ next ∷ more) = Err (Trailing (number + length forest + 1))

-- the entries from the line with this number on, up to the end of the text
unfoldable pub whole_forest_at : ℕ → Lines → Result (List Node) JobFault
whole_forest_at number ls = do
  found ← forest_at number 0 0 ls
  closed_by number found.0 found.1

-- all that follows the names, from the line `design` on, which has this number
unfoldable pub parts_at : ℕ → Option Names → Lines → Result Job JobFault
parts_at number names ls = do
  design ← line_by number design_in ls
  worst ← line_by (number + 1) worst_in design.1
  report ← report_at (number + 2) worst.1
  forest ← whole_forest_at (number + 11) report.1
  Ok record {
    names = names;
    design = design.0;
    worst = worst.0.0;
    share = worst.0.1;
    report = report.0;
    forest = forest;
  }

-- the job of all lines of a text, or their first fault
abbrev pub job_of : Lines → Result Job JobFault
job_of ls = do
  version ← version_line ls
  names ← names_at version.0 version.1
  parts_at (design_number names.0) names.0 names.1

-- the job of a text, or its first fault: this is what `read_job` answers
unfoldable pub job : List ℕ → Result Job JobFault
job text = job_of (lines text)

-- the text is that of a job
pub record IsTextOf (text : List ℕ) (j : Job) : Type 0 where
  pub is : IsJob j
  pub same : text ≡ job_text j
