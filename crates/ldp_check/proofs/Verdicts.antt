-- The first reason against a certificate, and what follows where there is none.
use Rattle.std.proofs.Common.{◌≡◌, ℕ, ℤ, pos, true, false, List, [], ◌∷◌, Option, Some, None}
use Rattle.std.proofs.Common.{refl, subst, ◌∙◌, inl, arith}
use Rattle.std.proofs.lemmas.Bool.Decides.{nat_tests}
use Rattle.std.proofs.lemmas.List.Elements.{All-nil}
use Rattle.std.specs.Prelude.{IfSome, option_map, unsigned_abs}
use Rattle.std.specs.Option.{option_or}
use Rattle.std.specs.Cmp.{signed_Decides}
use Rattle.ldp_design.specs.declared.family.Family.{Family}
use Rattle.ldp_design.specs.declared.design.Design.{Design}
use Rattle.ldp_design.specs.Designs.{IsAdmitted, is_admitted}
use Rattle.ldp_design.proofs.Wholes.{admitted_are_tested}
use Rattle.ldp_design.specs.Boxes.{LiesIn}
use Rattle.ldp_design.specs.Forests.{node_count}
use Rattle.ldp_problem.specs.declared.pair.Pair.{Pair}
use Rattle.ldp_problem.specs.Problem.{Problem}
use Rattle.ldp_problem.specs.Pairs.{AtMost}
use Rattle.ldp_problem.specs.Costs.{first_undefined, cost}
use Rattle.ldp_problem.proofs.Facts.{none_undefined}
use Rattle.ldp_cells.specs.Cells.{CellList}
use Rattle.ldp_job.specs.declared.names.Names.{Names}
use Rattle.ldp_job.specs.declared.names.Role.{Role}
use Rattle.ldp_job.specs.declared.share.Share.{Share}
use Rattle.ldp_job.specs.declared.job.Job.{Job}
use Rattle.ldp_check.specs.declared.reason.Reason.{Reason}
use Rattle.ldp_check.specs.declared.reason.Reason.TheVariants.{OtherInput, NotAdmissible}
use Rattle.ldp_check.specs.declared.reason.Reason.TheVariants.{DesignUnusable}
use Rattle.ldp_check.specs.declared.verdict.Verdict.TheVariants.{Accepted}
use Rattle.ldp_check.specs.Reports.{report_of}
use Rattle.ldp_check.specs.Inputs.{other_input}
use Rattle.ldp_check.specs.Printed.{printed, printed_over, forest_line, SameTolerance}
use Rattle.ldp_check.specs.Verdicts.{input_differs}
use Rattle.ldp_check.specs.Verdicts.{not_admitted, not_usable, other_over, other_worst}
use Rattle.ldp_check.specs.Verdicts.{other_report, over_differs, worst_differs, report_differs}
use Rattle.ldp_check.specs.Verdicts.{forest_fault, first_some, reason_against, verdict_by}
use Rattle.ldp_check.specs.Verdicts.{AcceptedAreProved}
use Rattle.ldp_check.proofs.Answered.{IsCost}
use Rattle.ldp_check.proofs.Faults.{holds}
use Rattle.ldp_check.proofs.Covered.{CountsNone, known, covered}

-- the first reason, found in the order of the list
pub input_first : (p : Problem) (list : CellList) (names : Names) (job : Job) (which : Role)
    → other_input names job.names ≡ Some which
    → reason_against p list names job ≡ Some (OtherInput which)
input_first p list names job which e = rw e refl

pub not_admitted_first : (p : Problem) (list : CellList) (names : Names) (job : Job)
    → other_input names job.names ≡ None → is_admitted p.families job.design ≡ false
    → reason_against p list names job ≡ Some NotAdmissible
not_admitted_first p list names job e h = rw (e, h) refl

pub unusable_first : (p : Problem) (list : CellList) (names : Names) (job : Job) (cell : ℕ)
    → other_input names job.names ≡ None → is_admitted p.families job.design ≡ true
    → first_undefined p job.design ≡ Some cell
    → reason_against p list names job ≡ Some (DesignUnusable cell)
unusable_first p list names job cell e h k = rw (e, h, k) refl

-- the reasons against what is printed, and those behind them
first_three : (a b c rest : Option Reason) → first_some (a ∷ b ∷ c ∷ rest ∷ []) ≡ option_or
    (first_some (a ∷ b ∷ c ∷ [])) rest
first_three (Some r) b c rest = refl
first_three None (Some r) c rest = refl
first_three None None (Some r) rest = refl
first_three None None None (Some r) = refl
first_three None None None None = refl

-- the reasons against what is printed, by the answers of a bounder
printed_is : (p : Problem) (list : CellList) (job : Job) (families : List Family) (over cell : ℕ)
    (value : ℤ)
    → IsCost p job.design over value cell → p.families ≡ families
    → first_some (other_over job.share over ∷ other_worst job.worst value
    ∷ other_report job.names job.report (report_of families list job.design value cell
    (node_count job.forest)) ∷ [])
    ≡ first_some (over_differs p job ∷ worst_differs p job ∷ report_differs p list job ∷ [])
printed_is p list job families over cell value h e =
    rw (h.same_over, h.same_value, h.same_cell, ← e) refl

-- the reason is found before the forest, or it is that of the forest
pub known_reason : (p : Problem) (list : CellList) (names : Names) (job : Job)
    (families : List Family) (over cell : ℕ) (value : ℤ)
    (answer : Option Reason) → other_input names job.names ≡ None → IsAdmitted p.families job.design
    → IsCost p job.design over value cell → p.families ≡ families
    → answer ≡ first_some (other_over job.share over ∷ other_worst job.worst value
    ∷ other_report job.names job.report (report_of families list job.design value cell
    (node_count job.forest)) ∷ [])
    → reason_against p list names job ≡ option_or answer (forest_fault p job)
known_reason p list names job families over cell value answer e admitted h same k =
    let told : answer ≡ first_some (over_differs p job ∷ worst_differs p job ∷ report_differs p list
    job ∷ []) =
    k ∙ printed_is p list job families over cell value h same in
    rw (e, (admitted_are_tested p.families job.design).1 admitted, h.none, told)
    (first_three (over_differs p job) (worst_differs p job) (report_differs p list job)
    (forest_fault p job))

-- no reason
none_in : (o : Option Reason) (rest : List (Option Reason)) → first_some (o ∷ rest) ≡ None
    → (o ≡ None) × (first_some rest ≡ None)
none_in None rest e = (refl, e)
none_in (Some r) rest e = absurd cc

record AreNone (input admitted usable over worst report forest : Option Reason) : Type 0 where
  input_none : input ≡ None
  admitted_none : admitted ≡ None
  usable_none : usable ≡ None
  over_none : over ≡ None
  worst_none : worst ≡ None
  report_none : report ≡ None
  forest_none : forest ≡ None

all_none : (a b c d e f g : Option Reason) → first_some (a ∷ b ∷ c ∷ d ∷ e ∷ f ∷ g ∷ []) ≡ None
    → AreNone a b c d e f g
all_none a b c d e f g h =
    let past_a = none_in a (b ∷ c ∷ d ∷ e ∷ f ∷ g ∷ []) h in
    let past_b = none_in b (c ∷ d ∷ e ∷ f ∷ g ∷ []) past_a.1 in
    let past_c = none_in c (d ∷ e ∷ f ∷ g ∷ []) past_b.1 in
    let past_d = none_in d (e ∷ f ∷ g ∷ []) past_c.1 in
    let past_e = none_in e (f ∷ g ∷ []) past_d.1 in
    let past_f = none_in f (g ∷ []) past_e.1 in
    record {
      input_none = past_a.0;
      admitted_none = past_b.0;
      usable_none = past_c.0;
      over_none = past_d.0;
      worst_none = past_e.0;
      report_none = past_f.0;
      forest_none = (none_in g [] past_f.1).0;
    }

none_mapped : {A B : Type 0} (f : A → B) (o : Option A) → option_map f o ≡ None → o ≡ None
none_mapped f None e = refl
none_mapped f (Some x) e = absurd cc

no_reason : (o : Option Reason) → verdict_by o ≡ Accepted → o ≡ None
no_reason None e = refl
no_reason (Some r) e = absurd cc

same_over : (share : Option Share) (over : ℕ) → other_over share over ≡ None
    → IfSome share (λ s. s.over ≡ over)
same_over None over e = tt
same_over (Some s) over e = let h = holds _ _ e in grind (arith, nat_tests)

same_worst : (worst actual : ℤ) → other_worst worst actual ≡ None → worst ≡ actual
same_worst worst actual e = (signed_Decides worst actual).0 (holds _ _ e)

-- what is printed without a tolerance
no_share : (p : Problem) (share : Option Share) → SameTolerance p share → p.tolerance ≡ None
    → printed_over share ≡ 0
no_share p None h e = refl
no_share p (Some s) h e = absurd cc

same_pair : (p : Problem) (share : Option Share) (d : Design) → SameTolerance p share
    → IfSome share (λ s. s.over ≡ (cost p d).over)
    → printed_over share ≡ (cost p d).over
same_pair p None d h e = rw (none_mapped pos p.tolerance h) refl
same_pair p (Some s) d h e = e

printed_cost : (p : Problem) (job : Job) → SameTolerance p job.share
    → other_over job.share (cost p job.design).over ≡ None
    → job.worst ≡ pos (cost p job.design).value → printed job ≡ cost p job.design
printed_cost p job h e k =
    let over : printed_over job.share ≡ (cost p job.design).over =
    same_pair p job.share job.design h (same_over job.share _ e) in
    let value : unsigned_abs job.worst ≡ (cost p job.design).value = rw k refl in
    rw (over, value) refl

pub accepted_are_proved : AcceptedAreProved
accepted_are_proved p list names job sound grids tolerance shape accepted =
    let none : AreNone (input_differs names job) (not_admitted p job) (not_usable p job)
    (over_differs p job) (worst_differs p job)
    (report_differs p list job) (forest_fault p job) =
    all_none (input_differs names job) (not_admitted p job) (not_usable p job) (over_differs p job)
    (worst_differs p job)
    (report_differs p list job) (forest_fault p job)
    (no_reason (reason_against p list names job) accepted) in
    let value : job.worst ≡ pos (cost p job.design).value =
    same_worst job.worst (pos (cost p job.design).value) none.worst_none in
    let pair : printed job ≡ cost p job.design =
    printed_cost p job tolerance none.over_none value in
    let counts : CountsNone p (printed job) = no_share p job.share tolerance in
    record {
      admissible =
          (admitted_are_tested p.families job.design).0
          (holds (is_admitted p.families job.design) NotAdmissible
          none.admitted_none);
      usable =
          none_undefined p job.design (none_mapped DesignUnusable (first_undefined p job.design)
          none.usable_none);
      worst = value;
      over = same_over job.share (cost p job.design).over none.over_none;
      smallest = λ d is defined.
          subst (λ (w : Pair). AtMost w (cost p d)) pair
          (covered p (printed job) sound grids counts d is defined job.forest
          (forest_line job.names) 0 []
          (All-nil (LiesIn p.families)) shape.shape none.forest_none
          (inl (known p.families d.family is.family is.found).0));
    }
