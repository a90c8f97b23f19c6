-- A text is read line by line, up to its first fault. A reading gives its value and the lines that
-- are left.
use Rattle.std.specs.Prelude.{ℕ, List, Option, Some, None, Result, Ok, Err}
use Rattle.ldp_spelling.specs.Pieces.{words, ended}
use Rattle.ldp_job.specs.declared.fault.JobFault.{JobFault}
use Rattle.ldp_job.specs.declared.fault.JobFault.TheVariants.{BadLine, Unended}

-- the lines that are left
abbrev pub Lines : Type 0
Lines = List (List ℕ)

-- the value of the line with this number, and the lines left; a fault if it has none
abbrev pub fitted : {A : Type 0} → ℕ → Lines → Option A → Result (A × Lines) JobFault
fitted number rest None = Err (BadLine number)
fitted number rest (Some a) = Ok (a, rest)

-- a line that is read by its words; a fault if its line feed is missing
abbrev pub line_as : {A : Type 0} → ℕ → (List (List ℕ) → Option A) → Option (List ℕ × Lines)
    → Result (A × Lines) JobFault
line_as number read None = Err (Unended number)
line_as number read (Some line) = fitted number line.1 (read (words line.0))

-- the line with this number, which is the first that is left, read by its words
unfoldable pub line_by : {A : Type 0} → ℕ → (List (List ℕ) → Option A) → Lines
    → Result (A × Lines) JobFault
line_by number read lines = line_as number read (ended lines)
