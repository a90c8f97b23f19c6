-- A job that is accepted is accepted with its files named.
use Rattle.std.proofs.Common.{◌≡◌, ◌≤◌, ℕ, true, false, List, ◌∷◌, length, refl, sym, ap}
use Rattle.std.proofs.Common.{◌∙◌, arith, subst, Option, Some, None, option_map}
use Rattle.std.proofs.lemmas.Slice.Eq.{bytes_eq-Decides}
use Rattle.std.specs.Prelude.{bytes_eq}
use Rattle.ldp_cells.specs.Cells.{CellList}
use Rattle.ldp_problem.specs.Problem.{Problem}
use Rattle.ldp_job.specs.Reading.{job}
use Rattle.ldp_job.specs.Texts.{job_text}
use Rattle.ldp_job.specs.Values.{AreNames, IsJob}
use Rattle.ldp_job.specs.declared.names.Names.{Names}
use Rattle.ldp_job.specs.declared.job.Job.{Job}
use Rattle.ldp_job.proofs.Jobs.{read_again}
use Rattle.ldp_job.proofs.Short.{texts_short}
use Rattle.ldp_design.specs.Forests.{start}
use Rattle.ldp_check.specs.declared.reason.Reason.{Reason}
use Rattle.ldp_check.specs.declared.verdict.Verdict.{Verdict}
use Rattle.ldp_check.specs.declared.verdict.Verdict.TheVariants.{Accepted, Rejected}
use Rattle.ldp_check.specs.Printed.{printed, forest_line}
use Rattle.ldp_check.specs.Verdicts.{input_differs, not_admitted, not_usable, over_differs}
use Rattle.ldp_check.specs.Verdicts.{worst_differs, report_differs, forest_fault, first_some}
use Rattle.ldp_check.specs.Verdicts.{reason_against, verdict_by}
use Rattle.ldp_answer.specs.Check.{job_problem, verdict_over, named, check_text, upgrade_text}
use Rattle.ldp_answer.specs.Laws.{UpgradedAreAccepted}
use Rattle.ldp_answer.proofs.Lines.{entries_pass}
use Rattle.ldp_answer.proofs.Lengths.{entries_few}

first_none : (reason : Option Reason) (reasons : List (Option Reason))
    → first_some (reason ∷ reasons) ≡ None → (reason ≡ None) × (first_some reasons ≡ None)
first_none None reasons e = (refl, e)
first_none (Some reason) reasons e = absurd cc

none_first : (reason : Option Reason) (reasons : List (Option Reason))
    → reason ≡ None → first_some reasons ≡ None → first_some (reason ∷ reasons) ≡ None
none_first None reasons e f = f
none_first (Some reason) reasons e f = absurd cc

mapped_none : (f g : ℕ → Reason) (o : Option ℕ) → option_map f o ≡ None → option_map g o ≡ None
mapped_none f g None e = refl
mapped_none f g (Some n) e = absurd cc

same_bytes : (bytes : List ℕ) → bytes_eq bytes bytes ≡ true
same_bytes bytes = (bytes_eq-Decides bytes bytes).1 refl

same_files : (names : Names) (j : Job) → input_differs names (named names j) ≡ None
same_files names j =
    rw (same_bytes names.zone, same_bytes names.heights, same_bytes names.grids) refl

named_passes : (p : Problem) (list : CellList) (names : Names) (j : Job)
    → reason_against p list names j ≡ None → reason_against p list names (named names j) ≡ None
named_passes p list names j e =
    let input = first_none (input_differs names j) _ e in
    let admitted = first_none (not_admitted p j) _ input.1 in
    let usable = first_none (not_usable p j) _ admitted.1 in
    let over = first_none (over_differs p j) _ usable.1 in
    let worst = first_none (worst_differs p j) _ over.1 in
    let report = first_none (report_differs p list j) _ worst.1 in
    let forest = first_none (forest_fault p j) _ report.1 in
    none_first (input_differs names (named names j)) _ (same_files names j)
    (none_first (not_admitted p j) _ admitted.0
    (none_first (not_usable p j) _ usable.0
    (none_first (over_differs p j) _ over.0
    (none_first (worst_differs p j) _ worst.0
    (none_first (report_differs p list (named names j)) _ (mapped_none _ _ _ report.0)
    (none_first (forest_fault p (named names j)) _
    (entries_pass p (printed j) (forest_line j.names) 16 j.forest start forest.0) refl))))))

accepted_none : (reason : Option Reason) → verdict_by reason ≡ Accepted → reason ≡ None
accepted_none None e = refl
accepted_none (Some reason) e = absurd cc

text_is : (names : Names) (j : Job) (verdict : Verdict) (text : List ℕ)
    → upgrade_text names j verdict ≡ record { rejected = false; text = text }
    → (verdict ≡ Accepted) × (text ≡ job_text (named names j))
text_is names j Accepted text e = (refl, sym (ap (λ a. a.text) e))
text_is names j (Rejected reason) text e =
    let lost : true ≡ false = ap (λ a. a.rejected) e in absurd cc

named_is : (names : Names) (j : Job) → AreNames names → IsJob j → IsJob (named names j)
named_is names j are is = record {
  names = are;
  design = is.design;
  worst = is.worst;
  share = is.share;
  report = is.report;
  entries = is.entries;
  forest = is.forest;
}

named_short : (p : Problem) (list : CellList) (names : Names) (j : Job) → AreNames names → IsJob j
    → reason_against p list names (named names j) ≡ None
    → length (job_text (named names j)) ≤ 128_000_000
named_short p list names j are is e =
    let input = first_none (input_differs names (named names j)) _ e in
    let admitted = first_none (not_admitted p j) _ input.1 in
    let usable = first_none (not_usable p j) _ admitted.1 in
    let over = first_none (over_differs p j) _ usable.1 in
    let worst = first_none (worst_differs p j) _ over.1 in
    let report = first_none (report_differs p list (named names j)) _ worst.1 in
    let forest = first_none (forest_fault p (named names j)) _ report.1 in
    let few = entries_few p (printed j) 16 j.forest start is.entries (omega arith) forest.0 in
    omega (arith, few, is.forest.few, texts_short (named names j) (named_is names j are is))

pub upgraded_are_accepted : UpgradedAreAccepted
upgraded_are_accepted list families names j text are is e =
    let p = job_problem list families j in
    let printed = text_is names j (verdict_over list families names j) text e in
    let none = accepted_none (reason_against p list names j) printed.0 in
    let passes = named_passes p list names j none in
    let accepted : verdict_over list families names (named names j) ≡ Accepted =
    ap verdict_by passes in
    record {
      short = subst (λ t. length t ≤ 128_000_000) (sym printed.1)
          (named_short p list names j are is passes);
      is_read = ap job printed.1 ∙ read_again (named names j) (named_is names j are is);
      accepted = ap check_text accepted;
      same = ap (upgrade_text names (named names j)) accepted
          ∙ ap (λ t. record { rejected = false; text = t }) (sym printed.1);
    }
