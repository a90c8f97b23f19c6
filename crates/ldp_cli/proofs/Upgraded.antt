-- The text of an upgraded job, read as a job over the same files.
use Rattle.std.proofs.Common.{◌≡◌, ◌≤◌, ℕ, false, List, length, refl, sym, ap, ◌∙◌, arith}
use Rattle.std.proofs.Common.{Result, Ok, Err, Option, Some, None, IfSome, true}
use Rattle.std.proofs.lemmas.Bool.Decides.{nat_tests}
use Rattle.std.specs.Prelude.{nat_le}
use Rattle.ldp_quantity.specs.Results.{◌>>=◌}
use Rattle.ldp_io.specs.Shelf.{Files}
use Rattle.ldp_job.specs.Reading.{job}
use Rattle.ldp_job.specs.Values.{AreNames, IsJob}
use Rattle.ldp_job.specs.declared.job.Job.{Job}
use Rattle.ldp_message.specs.declared.refusal.Refusal.{Refusal}
use Rattle.ldp_answer.specs.Cells.{cells_read}
use Rattle.ldp_answer.specs.Check.{named, upgrade_over}
use Rattle.ldp_answer.specs.declared.answer.Answer.{Answer}
use Rattle.ldp_answer.proofs.Upgrades.{upgraded_are_accepted}
use Rattle.ldp_cli.specs.Readings.{job_read}
use Rattle.ldp_cli.specs.Files.{Gives}
use Rattle.ldp_cli.specs.ProblemFiles.{ProblemRequest, problem_read}
use Rattle.ldp_cli.specs.Certificate.{JobRequest, certificate_read, HaveSameFiles}
use Rattle.ldp_cli.specs.Check.{IsUpgraded}
use Rattle.ldp_cli.specs.declared.certificate.Certificate.{Certificate}

pub bind_ok : {A B : Type 0} (first : Result A Refusal) (next : A → Result B Refusal) (b : B)
    → (first >>= next) ≡ Ok b → (a : A) × (first ≡ Ok a) × (next a ≡ Ok b)
bind_ok (Ok a) next b e = (a, refl, e)
bind_ok (Err refusal) next b e = absurd cc

-- a job in a short text
pub short_read : (text : List ℕ) (j : Job) → length text ≤ 128_000_000 → job text ≡ Ok j
    → job_read text ≡ Ok j
short_read text j short e =
    let yes : nat_le (length text) 128_000_000 ≡ true = grind (arith, nat_tests) in
    rw (yes, e) refl

pub same_problem : (asked again : ProblemRequest) (files later : Files)
    → HaveSameFiles asked files again later → problem_read again later ≡ problem_read asked files
same_problem asked again files later same = rw (same.zone, same.heights, same.grids) refl

-- the same files with another job
read_again : (asked again : JobRequest) (files later : Files) (read : Certificate) (j : Job)
    → certificate_read asked files ≡ Ok read
    → HaveSameFiles asked.problem files again.problem later → job_read (later again.job) ≡ Ok j
    → certificate_read again later ≡ Ok record read { job = j }
read_again asked again files later read j e same is =
    let problem = bind_ok (problem_read asked.problem files) _ read e in
    let first = bind_ok (job_read (files asked.job)) _ read problem.2 in
    let list = bind_ok (cells_read problem.0.zone problem.0.heights) _ read first.2 in
    rw (same_problem asked.problem again.problem files later same, problem.1, is, list.1)
    (ap (λ r. ap_job j r) list.2)
  where
    ap_job : Job → Result Certificate Refusal → Result Certificate Refusal
    ap_job j (Ok read) = Ok record read { job = j }
    ap_job j (Err refusal) = Err refusal

pub is_upgraded : (asked : JobRequest) (files : Files) (read : Certificate) (text : List ℕ)
    → certificate_read asked files ≡ Ok read → AreNames read.names → IsJob read.job
    → upgrade_over read.cells read.grids.families read.names read.job
    ≡ record { rejected = false; text = text }
    → IsUpgraded asked files
is_upgraded asked files read text e are is printed =
    let law = upgraded_are_accepted read.cells read.grids.families read.names read.job text are is
    printed in
    record {
      text = text;
      is_printed = rw e (ap Ok printed);
      is_kept = λ again later same job_is.
          let found = read_again asked again files later read (named read.names read.job) e same
          (ap job_read job_is ∙ short_read text _ law.short law.is_read) in
          (rw found (ap Ok law.accepted), rw found (ap Ok law.same));
    }

-- the same where the files are told
pub told_upgraded : (asked : JobRequest) (files : Option Files) (read : Certificate)
    (answer : Answer) → IfSome files (λ f. Gives (Ok read) (certificate_read asked f))
    → AreNames read.names → IsJob read.job
    → answer ≡ upgrade_over read.cells read.grids.families read.names read.job
    → answer.rejected ≡ false → IfSome files (λ f. IsUpgraded asked f)
told_upgraded asked None read answer told are is e done = tt
told_upgraded asked (Some f) read answer told are is e done =
    is_upgraded asked f read answer.text told are is
    (sym e ∙ ap (λ rejected. record { rejected = rejected; text = answer.text }) done)
