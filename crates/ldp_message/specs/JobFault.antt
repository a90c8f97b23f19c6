-- How a fault of a job is told: by its name and its values, each after a blank. Own choice of
-- this project.
use Rattle.std.specs.Prelude.{ℕ, List, ◌++◌, decimal, codes}
use Rattle.ldp_job.specs.declared.fault.JobFault.{JobFault}
use Rattle.ldp_job.specs.declared.fault.JobFault.TheVariants as faults

-- a fault of a job, with the version, or with its line, counted from 1
abbrev pub job_fault_text : JobFault → List ℕ
job_fault_text faults.NotAJob = codes "NotAJob"
job_fault_text (faults.Version number) = codes "Version " ++ decimal number
job_fault_text (faults.BadLine line) = codes "BadLine " ++ decimal line
job_fault_text (faults.TooManyNodes line) = codes "TooManyNodes " ++ decimal line
job_fault_text (faults.Unended line) = codes "Unended " ++ decimal line
job_fault_text (faults.Trailing line) = codes "Trailing " ++ decimal line
job_fault_text faults.Memory = codes "Memory"
