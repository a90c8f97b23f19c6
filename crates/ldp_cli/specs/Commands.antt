-- The commands: which request a list of words is, its files, and what it answers. Own choice of
-- this project.
use Rattle.std.specs.Prelude.{ℕ, Bool, List, [], ◌∷◌, codes, bytes_eq, if◌then◌else◌}
use Rattle.std.specs.Prelude.{Option, Some, None, option_map, Result}
use Rattle.ldp_io.specs.Shelf.{Files}
use Rattle.ldp_answer.specs.declared.answer.Answer.{Answer}
use Rattle.ldp_message.specs.declared.refusal.Refusal.{Refusal}
use Rattle.ldp_cli.specs.Files.{Asked, ServesFrom}
use Rattle.ldp_cli.specs.Eval.{eval_request, eval_files, eval_answer}
use Rattle.ldp_cli.specs.Certificate.{job_request, job_files, IsShown}
use Rattle.ldp_cli.specs.Check.{check_answer, upgrade_answer, IsUpgraded}
use Rattle.ldp_cli.specs.Design.{design_request, design_files, design_answer, IsCertified}
use Rattle.ldp_cli.specs.Table.{table_request, table_files, table_answer}
use Rattle.ldp_cli.specs.Wkt.{wkt_request, wkt_files, wkt_answer}
use Rattle.ldp_cli.specs.Sample.{SampleRequest, sample_request, sample_answer, IsSampled}
use Rattle.ldp_cli.specs.declared.commands.Request.{Request}
use Rattle.ldp_cli.specs.declared.commands.Request.TheVariants.{Eval, Design, Check, Upgrade}
use Rattle.ldp_cli.specs.declared.commands.Request.TheVariants.{Table, Wkt, Sample}

-- the request of a command's name and the words after it
abbrev pub request_named : List ℕ → List (List ℕ) → Option Request
request_named name words =
    if bytes_eq name (codes "eval") then option_map Eval (eval_request words)
    else if bytes_eq name (codes "check") then option_map Check (job_request words)
    else if bytes_eq name (codes "design") then option_map Design (design_request words)
    else if bytes_eq name (codes "upgrade") then option_map Upgrade (job_request words)
    else if bytes_eq name (codes "table") then option_map Table (table_request words)
    else if bytes_eq name (codes "wkt") then option_map Wkt (wkt_request words)
    else if bytes_eq name (codes "sample") then option_map Sample (sample_request words)
    else None

-- the request of the words after the program's name, if they are in a form
abbrev pub request : List (List ℕ) → Option Request
request [] = None
request (name ∷ words) = request_named name words

-- the files of a request, in the order of its words
abbrev pub files_of : Request → List Asked
files_of (Eval asked) = eval_files asked
files_of (Design asked) = design_files asked
files_of (Check asked) = job_files asked
files_of (Upgrade asked) = job_files asked
files_of (Table asked) = table_files asked
files_of (Wkt asked) = wkt_files asked
files_of (Sample asked) = []

-- what a request answers, or why it is refused
abbrev pub answer_to : Request → Files → Result Answer Refusal
answer_to (Eval asked) files = eval_answer asked files
answer_to (Design asked) files = design_answer asked files
answer_to (Check asked) files = check_answer asked files
answer_to (Upgrade asked) files = upgrade_answer asked files
answer_to (Table asked) files = table_answer asked files
answer_to (Wkt asked) files = wkt_answer asked files
answer_to (Sample asked) files = sample_answer asked

-- what a request shows where it answers no rejection
abbrev pub Shows : Option Request → Files → Type 0
Shows None files = Unit {0}
Shows (Some (Eval asked)) files = Unit {0}
Shows (Some (Design asked)) files = IsCertified asked files
Shows (Some (Check asked)) files = IsShown asked files
Shows (Some (Upgrade asked)) files = IsUpgraded asked files
Shows (Some (Table asked)) files = Unit {0}
Shows (Some (Wkt asked)) files = Unit {0}
Shows (Some (Sample asked)) files = IsSampled asked

-- the files of a list of words: none where it is in no form
abbrev pub asked_in : Option Request → List Asked
asked_in None = []
asked_in (Some asked) = files_of asked

-- the sample that is asked for, if it is one
abbrev pub sampled_in : Option Request → Option SampleRequest
sampled_in None = None
sampled_in (Some (Eval asked)) = None
sampled_in (Some (Design asked)) = None
sampled_in (Some (Check asked)) = None
sampled_in (Some (Upgrade asked)) = None
sampled_in (Some (Table asked)) = None
sampled_in (Some (Wkt asked)) = None
sampled_in (Some (Sample asked)) = Some asked

-- the shelf serves the files that the words name
abbrev pub Serves : (ℕ → List ℕ → Bool) → List (List ℕ) → Type 0
Serves serves words = ServesFrom serves 0 (asked_in (request words))

-- the answer to a list of words over files: none where the words are in no form
abbrev pub outcome : List (List ℕ) → Files → Option (Result Answer Refusal)
outcome words files = option_map (λ asked. answer_to asked files) (request words)
