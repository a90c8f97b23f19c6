-- The certificate of the design that a search has found, and the answer.
use Rattle.std.proofs.Common.{◌≡◌, ◌≤◌, ◌<◌, ◌^◌, ℕ, ℤ, pos, false, List, length, arith, refl}
use Rattle.std.proofs.Common.{Option, None, Some, Ok, Err, IfSome, sym, ap, subst, ◌∙◌, inl, inr}
use Rattle.std.proofs.Common.{[], Result, IfErr}
use Rattle.std.proofs.lemmas.Bool.Decides.{nat_tests}
use Rattle.std.proofs.lemmas.Int.{ints}
use Rattle.std.specs.Prelude.{option_map, unsigned_abs, nat_lt, if◌then◌else◌}
use Rattle.ldp_design.specs.declared.family.Family.{Family}
use Rattle.ldp_design.specs.Families.{AreGrids}
use Rattle.ldp_design.specs.Limits.{most_budget, most_tolerance, IsTolerance}
use Rattle.ldp_cells.specs.Cells.{CellList, most_cells}
use Rattle.ldp_problem.specs.Problem.{Problem}
use Rattle.ldp_problem.specs.Costs.{cost, worst_cell}
use Rattle.ldp_job.specs.declared.names.Names.{Names}
use Rattle.ldp_job.specs.declared.job.Job.{Job}
use Rattle.ldp_job.specs.Values.{IsJob}
use Rattle.ldp_check.specs.Reports.{report_of}
use Rattle.ldp_check.specs.Verdicts.{verdict_of}
use Rattle.ldp_check.specs.declared.verdict.Verdict.TheVariants.{Accepted}
use Rattle.ldp_answer.specs.Problem.{problem_over}
use Rattle.ldp_bound.proofs.Sound.{plain_sound}
use Rattle.ldp_optimum.specs.Best.{Ranked, best}
use Rattle.ldp_optimum.specs.Forest.{needed}
use Rattle.ldp_search.specs.declared.found.Found.{Found}
use Rattle.ldp_search.specs.Search.{IsFound, HasCost}
use Rattle.ldp_agreement.specs.Certificates.{share_of, IsCertificateOf}
use Rattle.ldp_agreement.specs.Texts.{IsPrintable, AreValues}
use Rattle.ldp_agreement.proofs.Certificates.{best_are_accepted}
use Rattle.ldp_agreement.proofs.Texts.{best_have_texts, best_are_read_back}
use Rattle.ldp_message.specs.declared.refusal.Refusal.TheVariants.{BudgetSpent}
use Rattle.ldp_answer.specs.declared.fault.WorkFault.{WorkFault}
use Rattle.ldp_answer.specs.Works.{Works}
use Rattle.ldp_answer.specs.Check.{tolerance_of}
use Rattle.ldp_answer.specs.Design.{certificate, certificate_with, best_certificate, search_job}
use Rattle.ldp_answer.specs.Design.{AreNamed, IsAcceptedJob}

-- what is known of the job that is printed
pub record IsPrinted (p : Problem) (list : CellList) (names : Option Names) (tolerance : Option ℤ)
    (budget : ℕ) (f : Found) (j : Job) : Type 0 where
  pub found : IsFound p budget f
  pub cost : HasCost p f
  pub names_are : j.names ≡ names
  pub design : j.design ≡ f.design
  pub worst : j.worst ≡ f.worst
  pub share : j.share ≡ share_of (option_map unsigned_abs tolerance) f.over
  pub report : report_of p.families list f.design f.worst f.cell f.nodes ≡ Some j.report
  pub forest_is : j.forest ≡ f.forest

pub is_certificate : (p : Problem) (list : CellList) (names : Option Names) (present : Names)
    (tolerance : Option ℤ) (budget : ℕ) (f : Found) (j : Job)
    → IsPrinted p list names tolerance budget f j → AreNamed names present
    → p.tolerance ≡ option_map unsigned_abs tolerance
    → IsCertificateOf p list present (record { design = f.design; cost = cost p f.design }) j
is_certificate p list names present tolerance budget f j h named e = record {
  names = subst (λ n. AreNamed n present) (sym h.names_are) named;
  design = h.design;
  worst = h.worst ∙ h.cost.worst;
  share = h.share ∙ ap (λ t. share_of t f.over) (sym e) ∙ ap (share_of p.tolerance) h.cost.over;
  report = subst (λ worst. report_of p.families list f.design worst (worst_cell p f.design)
      (needed p) ≡ Some j.report) h.cost.worst
      (subst (λ cell. report_of p.families list f.design f.worst cell (needed p) ≡ Some j.report)
      h.cost.cell
      (subst (λ nodes. report_of p.families list f.design f.worst f.cell nodes ≡ Some j.report)
      h.found.nodes h.report));
  forest = h.forest_is ∙ h.found.forest;
}

-- the job is the certificate
same_job : (p : Problem) (list : CellList) (names : Option Names) (present : Names) (x : Ranked)
    (j : Job) → IsCertificateOf p list present x j → j.names ≡ names
    → certificate p names x j.report ≡ j
same_job p list names present x j c named =
    rw (sym named, sym c.design, sym c.worst, sym c.share, sym c.forest) refl

enough : (budget n : ℕ) → n ≤ budget → nat_lt budget n ≡ false
enough budget n h = grind (arith, nat_tests)

pub job_is : (p : Problem) (list : CellList) (names : Option Names) (present : Names) (budget : ℕ)
    (x : Ranked) (j : Job)
    → best p ≡ Some x → needed p ≤ budget → IsCertificateOf p list present x j → j.names ≡ names
    → search_job p list names budget ≡ Ok j
job_is p list names present budget x j is h c named =
    ap (λ t. if t then Err (BudgetSpent budget) else best_certificate p list names (best p))
    (enough budget (needed p) h)
    ∙ ap (best_certificate p list names) is
    ∙ ap (certificate_with p names x) c.report
    ∙ ap Ok (same_job p list names present x j c named)

-- files that a job names, and any where it names none
abbrev present_of : Option Names → Names
present_of None = record { zone = []; heights = []; grids = [] }
present_of (Some names) = names

named_so : (names : Option Names) → AreNamed names (present_of names)
named_so None = inl refl
named_so (Some names) = inr refl

printable : (families : List Family) (list : CellList) (tolerance : Option ℤ) (budget : ℕ)
    → AreGrids families → 0 < length list.cells → length list.cells ≤ most_cells
    → IfSome tolerance IsTolerance
    → needed (problem_over families list.cells (option_map unsigned_abs tolerance)) ≤ budget
    → budget ≤ most_budget
    → IsPrintable (problem_over families list.cells (option_map unsigned_abs tolerance))
printable families list tolerance budget g some few within enough most = record {
  grids = g;
  some_cell = some;
  few_cells = few;
  few_nodes = omega (arith, enough, most);
  tolerance = small tolerance within;
}
  where
    small : (t : Option ℤ) → IfSome t IsTolerance
        → IfSome (option_map unsigned_abs t) (λ n. n ≤ most_tolerance)
    small None h = tt
    small (Some z) h = omega (arith, ints, h.0, h.1)

-- the tolerance of the job is that of the words
tolerance_again : (tolerance : Option ℕ) (over : ℕ)
    → tolerance_of (share_of tolerance over) ≡ tolerance
tolerance_again None over = refl
tolerance_again (Some t) over = refl

-- what is known where the job is printed
pub record IsKnown (families : List Family) (list : CellList) (names : Option Names)
    (tolerance : Option ℤ) (budget : ℕ) (f : Found) (j : Job) : Type 0 where
  pub grids : AreGrids families
  pub some : 0 < length list.cells
  pub few : length list.cells ≤ most_cells
  pub within : IfSome tolerance IsTolerance
  pub most : budget ≤ most_budget
  pub printed : IsPrinted (problem_over families list.cells (option_map unsigned_abs tolerance))
      list names tolerance budget f j
  pub values : AreValues j

module _ (families : List Family) (list : CellList) (names : Option Names) (tolerance : Option ℤ)
    (budget : ℕ) (f : Found) (j : Job) (h : IsKnown families list names tolerance budget f j) where
  abbrev problem : Problem
  problem = problem_over families list.cells (option_map unsigned_abs tolerance)

  abbrev best_of : Ranked
  best_of = record { design = f.design; cost = cost problem f.design }

  certified : (present : Names) → AreNamed names present
      → IsCertificateOf problem list present best_of j
  certified present named =
      is_certificate problem list names present tolerance budget f j h.printed named refl

  prints : IsPrintable problem
  prints =
      printable families list tolerance budget h.grids h.some h.few h.within h.printed.found.enough
      h.most

  pub has_text : IsJob j
  has_text =
      best_have_texts problem list (present_of names) best_of j prints h.values
      h.printed.found.best (certified (present_of names) (named_so names))

  pub found_job : search_job problem list names budget ≡ Ok j
  found_job =
      job_is problem list names (present_of names) budget best_of j h.printed.found.best
      h.printed.found.enough (certified (present_of names) (named_so names)) h.printed.names_are

  same_tolerance : tolerance_of j.share ≡ option_map unsigned_abs tolerance
  same_tolerance =
      ap tolerance_of h.printed.share
      ∙ tolerance_again (option_map unsigned_abs tolerance) f.over

  pub accepted_job : (present : Names) → AreNamed names present
      → IsAcceptedJob list families present j
  accepted_job present named =
      let back = best_are_read_back problem list present best_of j prints h.values
      h.printed.found.best (certified present named) in
      record {
        verdict = subst
            (λ t. verdict_of (problem_over families list.cells t) list present j ≡ Accepted)
            (sym same_tolerance)
            (best_are_accepted problem list present best_of j
            (plain_sound families list.cells (option_map unsigned_abs tolerance) h.grids h.some)
            h.grids h.printed.found.best (certified present named));
        read = back.0;
        short = back.1;
      }

-- what a refusal says over one problem, it says over an equal one
pub refused_over : (result : Result Found WorkFault) (p q : Problem) (list : CellList)
    (budget : ℕ) → p ≡ q
    → IfErr result (λ fault. (cells : CellList) (names : Option Names)
    → Works {A = Job} (Err fault) (search_job p cells names budget))
    → IfErr result (λ fault. (names : Option Names)
    → Works {A = Job} (Err fault) (search_job q list names budget))
refused_over (Ok found) p q list budget e h = tt
refused_over (Err fault) p q list budget e h = λ names.
    subst (λ (of : Problem). Works {A = Job} (Err fault) (search_job of list names budget)) e
    (h list names)
