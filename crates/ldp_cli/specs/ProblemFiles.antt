-- The three files that state a problem: a zone, heights and design grids. Own choice of this
-- project.
use Rattle.std.specs.Prelude.{ℕ, List, ◌∷◌, Result, Ok}
use Rattle.ldp_quantity.specs.Results.{◌>>=◌}
use Rattle.ldp_io.specs.Shelf.{Files}
use Rattle.ldp_message.specs.declared.file_role.FileRole.TheVariants as roles
use Rattle.ldp_message.specs.declared.refusal.Refusal.{Refusal}
use Rattle.ldp_cli.specs.Readings.{zone_read, height_file_read, grids_read}
use Rattle.ldp_cli.specs.Files.{Asked}
use Rattle.ldp_cli.specs.declared.inputs.ZoneFile.{ZoneFile}
use Rattle.ldp_cli.specs.declared.inputs.HeightFile.{HeightFile}
use Rattle.ldp_cli.specs.declared.inputs.GridFile.{GridFile}
use Rattle.ldp_cli.specs.declared.problem_files.ProblemFiles.{ProblemFiles}

-- the names of the files
pub record ProblemRequest : Type 0 where
  pub zone : List ℕ
  pub heights : List ℕ
  pub grids : List ℕ

-- the files of a command that begins with them, and asks for these files after them
abbrev pub problem_files : ProblemRequest → List Asked → List Asked
problem_files asked more =
    record { role = roles.Zone; name = asked.zone }
    ∷ record { role = roles.Heights; name = asked.heights }
    ∷ record { role = roles.Grids; name = asked.grids }
    ∷ more

-- what is read of them, with their hashes as the names of the files
abbrev pub files_read : ZoneFile → HeightFile → GridFile → ProblemFiles
files_read zone heights grids = record {
  zone = zone.zone;
  heights = heights.heights;
  grids = grids.grids;
  names = record { zone = zone.hash; heights = heights.hash; grids = grids.hash };
}

-- the three files read in this order; the first refusal is answered
abbrev pub problem_read : ProblemRequest → Files → Result ProblemFiles Refusal
problem_read asked files = do
  zone ← zone_read (files asked.zone)
  heights ← height_file_read (files asked.heights)
  grids ← grids_read (files asked.grids)
  Ok (files_read zone heights grids)
