-- How a run ends: its status, what it wrote, and the line on the error output. Own choice of this
-- project.
use Rattle.std.specs.Prelude.{◌≡◌, ◌⊎◌, ℕ, ◌≤◌, Bool, List, [], ◌∷◌, ◌++◌, length, codes}
use Rattle.std.specs.Prelude.{Option, Some, None, IfSome, Result, Ok, Err, if◌then◌else◌}
use Rattle.ldp_io.specs.Shelf.{Files}
use Rattle.ldp_message.specs.FileRole.{role_name}
use Rattle.ldp_message.specs.Refusal.{refusal_status, refusal_text}
use Rattle.ldp_answer.specs.declared.answer.Answer.{Answer}
use Rattle.ldp_message.specs.declared.refusal.Refusal.{Refusal}
use Rattle.ldp_cli.specs.Growth.{GrowsByAll, GrowsBy, GrowsByPrefix}
use Rattle.ldp_cli.specs.Files.{Asked, HasFailed}
use Rattle.ldp_cli.specs.declared.ending.Ending.{Ending}
use Rattle.ldp_cli.specs.declared.ending.Ending.TheVariants as endings

-- a number is one of a list; false for the empty list
abbrev pub IsOneOf : ℕ → List ℕ → Type 0
IsOneOf n [] = ⊥
IsOneOf n (first ∷ more) = (n ≡ first) ⊎ IsOneOf n more

-- the status of a text that is written in full: 1 for a rejection
abbrev pub answer_status : Bool → ℕ
answer_status rejected = if rejected then 1 else 0

-- the exit status: 0 or 1 for a printed answer, 2 for wrong words, 3 for a file that cannot be
-- read, 4 to 7 and 10 for a refusal, 8 for output that cannot be written, 9 for want of memory
abbrev pub ending_status : Ending → ℕ
ending_status endings.Usage = 2
ending_status (endings.Printed rejected) = answer_status rejected
ending_status (endings.Refused refusal) = refusal_status refusal
ending_status (endings.Unread place role) = 3
ending_status endings.Unwritten = 8
ending_status endings.Memory = 9

-- the text of the error output: none where the answer was printed
abbrev pub ending_text : Ending → List ℕ
ending_text endings.Usage = codes "usage"
ending_text (endings.Printed rejected) = []
ending_text (endings.Refused refusal) = refusal_text refusal
ending_text (endings.Unread place role) = codes "cannot read " ++ role_name role
ending_text endings.Unwritten = codes "cannot write"
ending_text endings.Memory = codes "out of memory"

-- the line on the error output, with its line feed
abbrev pub ending_line : Ending → List ℕ
ending_line ending = ending_text ending ++ codes "\n"

-- The status, and the output's bytes before and now, for an outcome: for words in no form, for an
-- answer, and for a refusal. An answer is written in full; or a write fails (8), memory is wanting
-- (9), or a file cannot be read (3).
abbrev pub Answers : ℕ → Option (Result Answer Refusal) → Option (List ℕ) → Option (List ℕ) → Type 0
Answers status None before now = (status ≡ 2) × (now ≡ before)
Answers status (Some (Ok answer)) before now =
    ((status ≡ answer_status answer.rejected) × GrowsByAll answer.text before now)
    ⊎ ((status ≡ 8) × GrowsByPrefix answer.text before now)
    ⊎ ((status ≡ 9) × GrowsByPrefix answer.text before now)
    ⊎ ((status ≡ 3) × (now ≡ before))
Answers status (Some (Err refusal)) before now =
    IsOneOf status (refusal_status refusal ∷ 3 ∷ 9 ∷ []) × (now ≡ before)

-- the answer is a text, a rejection or not as is told
abbrev pub IsAnswer : Bool → Option (Result Answer Refusal) → Type 0
IsAnswer rejected None = ⊥
IsAnswer rejected (Some (Ok answer)) = answer.rejected ≡ rejected
IsAnswer rejected (Some (Err refusal)) = ⊥

-- a run over files ended as its outcome is, or from outside
abbrev pub EndsAs : Ending → Option (Result Answer Refusal) → Type 0
EndsAs endings.Usage told = told ≡ None
EndsAs (endings.Printed rejected) told = IsAnswer rejected told
EndsAs (endings.Refused refusal) told = told ≡ Some (Err refusal)
EndsAs (endings.Unread place role) told = Unit {0}
EndsAs endings.Unwritten told = Unit {0}
EndsAs endings.Memory told = Unit {0}

-- where it ended because a file could not be read: a call for that file has failed
abbrev pub EndsIn : List Asked → Ending → (ℕ → ℕ) → (ℕ → ℕ) → Option Files → Type 0
EndsIn asked endings.Usage before now files = Unit {0}
EndsIn asked (endings.Printed rejected) before now files = Unit {0}
EndsIn asked (endings.Refused refusal) before now files = Unit {0}
EndsIn asked (endings.Unread place role) before now files =
    HasFailed place role asked before now files
EndsIn asked endings.Unwritten before now files = Unit {0}
EndsIn asked endings.Memory before now files = Unit {0}

-- the output is as it was where nothing was written
abbrev pub KeepsOutput : Ending → Option (List ℕ) → Option (List ℕ) → Type 0
KeepsOutput endings.Usage before now = now ≡ before
KeepsOutput (endings.Printed rejected) before now = Unit {0}
KeepsOutput (endings.Refused refusal) before now = now ≡ before
KeepsOutput (endings.Unread place role) before now = now ≡ before
KeepsOutput endings.Unwritten before now = Unit {0}
KeepsOutput endings.Memory before now = Unit {0}

-- The error output grew by a prefix of the line of the ending that has this status, in full but
-- where a write has failed. The ending is the one that is told, or it comes from outside; one of
-- reading is that of the place that has failed.
pub record Tells (status : ℕ) (asked : List Asked) (told : Files → Option (Result Answer Refusal))
    (faults_before faults_now : ℕ → ℕ) (files : Option Files) (before now : Option (List ℕ))
    (failed : Type 0) : Type 0 where
  pub ending : Ending
  pub status_is : status ≡ ending_status ending
  pub is_told : IfSome files (λ f. EndsAs ending (told f))
  pub is_fault : EndsIn asked ending faults_before faults_now files
  pub count : ℕ
  pub grows : GrowsBy count (ending_line ending) before now
  pub in_full : (length (ending_line ending) ≤ count) ⊎ failed

-- an ending of a run that has an answer to write
abbrev pub IsOfWriting : Ending → Type 0
IsOfWriting endings.Usage = ⊥
IsOfWriting (endings.Printed rejected) = Unit {0}
IsOfWriting (endings.Refused refusal) = ⊥
IsOfWriting (endings.Unread place role) = ⊥
IsOfWriting endings.Unwritten = Unit {0}
IsOfWriting endings.Memory = Unit {0}
