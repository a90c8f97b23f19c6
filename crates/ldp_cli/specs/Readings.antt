-- What is read of each file of a command. Own choice of this project.
use Rattle.std.specs.Prelude.{ℕ, nat_le, Bool, List, length, Result, Ok, Err, is_ok}
use Rattle.std.specs.Prelude.{if◌then◌else◌}
use Rattle.sha2.specs.Sha256.{sha256}
use Rattle.ldp_quantity.specs.Results.{◌>>=◌}
use Rattle.ldp_zone.specs.Grammar.{zone_of}
use Rattle.ldp_heights.specs.Grid.{HeightGrid}
use Rattle.ldp_heights.specs.Reading.{heights_of}
use Rattle.ldp_grids.specs.Reading.{grids_of}
use Rattle.ldp_job.specs.Reading.{job}
use Rattle.ldp_job.specs.declared.job.Job.{Job}
use Rattle.ldp_message.specs.Refusal.{or_refused}
use Rattle.ldp_message.specs.declared.file_role.FileRole.{FileRole}
use Rattle.ldp_message.specs.declared.file_role.FileRole.TheVariants as roles
use Rattle.ldp_message.specs.declared.refusal.Refusal.{Refusal}
use Rattle.ldp_message.specs.declared.refusal.Refusal.TheVariants as refusals
use Rattle.ldp_cli.specs.declared.inputs.ZoneFile.{ZoneFile}
use Rattle.ldp_cli.specs.declared.inputs.HeightFile.{HeightFile}
use Rattle.ldp_cli.specs.declared.inputs.GridFile.{GridFile}

-- a text of at most 128,000,000 bytes
abbrev pub short_text : FileRole → List ℕ → Result (List ℕ) Refusal
short_text role text =
    if nat_le (length text) 128_000_000 then Ok text else Err (refusals.TooLong role)

-- the zone of a file, with the file's SHA-256 hash (FIPS 180-4)
abbrev pub zone_read : List ℕ → Result ZoneFile Refusal
zone_read file = do
  text ← short_text roles.Zone file
  zone ← or_refused refusals.RefusedZone (zone_of text)
  Ok record { zone = zone; hash = sha256 text }

-- the grid of a file of heights
abbrev pub heights_read : List ℕ → Result HeightGrid Refusal
heights_read file = do
  text ← short_text roles.Heights file
  or_refused refusals.RefusedHeights (heights_of text)

-- the same, with the file's SHA-256 hash
abbrev pub height_file_read : List ℕ → Result HeightFile Refusal
height_file_read file = do
  heights ← heights_read file
  Ok record { heights = heights; hash = sha256 file }

-- the families of a file of design grids, with the file's SHA-256 hash
abbrev pub grids_read : List ℕ → Result GridFile Refusal
grids_read file = do
  text ← short_text roles.Grids file
  grids ← or_refused refusals.RefusedGrids (grids_of text)
  Ok record { grids = grids; hash = sha256 text }

-- the job of a file
abbrev pub job_read : List ℕ → Result Job Refusal
job_read file = do
  text ← short_text roles.Job file
  or_refused refusals.RefusedJob (job text)

-- whether a file can be read as what it is for
abbrev pub is_accepted : FileRole → List ℕ → Bool
is_accepted roles.Zone file = is_ok (zone_read file)
is_accepted roles.Heights file = is_ok (heights_read file)
is_accepted roles.Grids file = is_ok (grids_read file)
is_accepted roles.Job file = is_ok (job_read file)
