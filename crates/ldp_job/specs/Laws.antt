-- The laws of the texts of jobs.
use Rattle.std.specs.Prelude.{◌≡◌, ◌≤◌, ◌+◌, ◌*◌, length, Ok}
use Rattle.ldp_job.specs.declared.job.Job.{Job}
use Rattle.ldp_job.specs.Values.{IsJob}
use Rattle.ldp_job.specs.Texts.{job_text}
use Rattle.ldp_job.specs.Reading.{job}

-- the text of a job is read to it
abbrev pub TextsAreRead : Type 0
TextsAreRead = (j : Job) → IsJob j → job (job_text j) ≡ Ok j

-- a text has so many bytes at most: 2,000 for its head, and 40 for each entry of its forest
abbrev pub TextsAreShort : Type 0
TextsAreShort = (j : Job) → IsJob j → length (job_text j) ≤ 2_000 + 40 * length j.forest
