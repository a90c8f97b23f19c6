-- No reason stands against the certificate of the best design.
use Rattle.std.proofs.Common.{◌≡◌, ℕ, pos, Bool, true, not, ◌&&◌, List, [], ◌∷◌, Option, None}
use Rattle.std.proofs.Common.{Some, refl, sym, ap, subst, ◌∙◌, ◌⊎◌, inl, inr}
use Rattle.std.proofs.lemmas.Bool.{eq-eqb}
use Rattle.std.proofs.lemmas.Bool.Decides.{Decides-int_eq}
use Rattle.std.proofs.lemmas.Slice.Eq.{bytes_eq-Decides}
use Rattle.std.specs.Prelude.{ℤ, unsigned_abs, option_map, position, bytes_eq}
use Rattle.std.specs.Ordering.{int_eq}
use Rattle.std.specs.Bool.{then_some}
use Rattle.ldp_design.specs.declared.family.Kind.{Kind}
use Rattle.ldp_design.specs.declared.family.Kind.TheVariants.{Tm, Lambert, Hotine, Lambert2}
use Rattle.ldp_design.specs.Families.{AreGrids}
use Rattle.ldp_design.specs.Designs.{is_admitted}
use Rattle.ldp_design.proofs.Wholes.{admitted_are_tested}
use Rattle.ldp_design.specs.Forests.{node_count, start, IsWellShaped}
use Rattle.ldp_cells.specs.Cells.{CellList}
use Rattle.ldp_problem.specs.declared.pair.Pair.{Pair}
use Rattle.ldp_problem.specs.Problem.{Problem, IsSound}
use Rattle.ldp_problem.specs.Costs.{first_undefined, cost, worst_cell, sizes}
use Rattle.ldp_problem.proofs.Facts.{usable_has_none}
use Rattle.ldp_job.specs.declared.names.Names.{Names}
use Rattle.ldp_job.specs.declared.report.Report.{Report}
use Rattle.ldp_job.specs.declared.job.Job.{Job}
use Rattle.ldp_optimum.specs.Best.{Ranked, best}
use Rattle.ldp_optimum.specs.Laws.{IsRanked, IsRankOf}
use Rattle.ldp_optimum.proofs.Bests.{best_ranked, best_least, ranked_usable}
use Rattle.ldp_optimum.proofs.Forests.{forest_is_shaped}
use Rattle.ldp_check.specs.declared.reason.Reason.{Reason}
use Rattle.ldp_check.specs.declared.reason.Reason.TheVariants.{OtherInput, DesignUnusable}
use Rattle.ldp_check.specs.declared.reason.Reason.TheVariants.{NotAdmissible, OverDiffers}
use Rattle.ldp_check.specs.declared.reason.Reason.TheVariants.{WorstDiffers}
use Rattle.ldp_check.specs.Inputs.{other_input}
use Rattle.ldp_check.specs.Printed.{printed, printed_over, forest_line}
use Rattle.ldp_check.specs.Reports.{report_of, is_kind, differing_line}
use Rattle.ldp_check.specs.Entries.{first_fault}
use Rattle.ldp_check.specs.Verdicts.{input_differs, not_admitted, not_usable, over_differs}
use Rattle.ldp_check.specs.Verdicts.{worst_differs, report_differs, forest_fault, other_over}
use Rattle.ldp_check.specs.Verdicts.{other_worst, other_report, actual_report}
use Rattle.ldp_check.specs.Verdicts.{first_some, reason_against}
use Rattle.ldp_check.specs.Verdicts.{verdict_by}
use Rattle.ldp_agreement.specs.Certificates.{IsCertificateOf, share_of, BestAreAccepted}
use Rattle.ldp_agreement.specs.Certificates.{BestAreShaped}
use Rattle.ldp_agreement.proofs.Walks.{IsLeast, none_beyond}
use Rattle.ldp_agreement.proofs.Forests.{forest_walked}

same_bytes : (xs : List ℕ) → bytes_eq xs xs ≡ true
same_bytes xs = (bytes_eq-Decides xs xs).1 refl

int_same : (z : ℤ) → int_eq z z ≡ true
int_same z = (Decides-int_eq z z).1 refl

-- the files are those that are present
no_other_input : (present : Names) (named : Option Names) → (named ≡ None) ⊎ (named ≡ Some present)
    → other_input present named ≡ None
no_other_input present named (inl e) = rw e refl
no_other_input present named (inr e) =
    rw (e, same_bytes present.zone, same_bytes present.heights, same_bytes present.grids) refl

-- its over and its worst are the printed ones
same_over : (tolerance : Option ℕ) (over : ℕ) → other_over (share_of tolerance over) over ≡ None
same_over None over = refl
same_over (Some t) over =
    ap (λ b. then_some (not b) (OverDiffers over over)) (eq-eqb over over refl)

same_worst : (worst : ℤ) → other_worst worst worst ≡ None
same_worst worst = ap (λ b. then_some (not b) (WorstDiffers worst worst)) (int_same worst)

-- its report is the printed one
same_kind : (kind : Kind) → is_kind kind kind ≡ true
same_kind Tm = refl
same_kind Lambert = refl
same_kind Hotine = refl
same_kind Lambert2 = refl

no_line : (a b c d e f g h i j k : Bool) → a ≡ true → b ≡ true → c ≡ true → d ≡ true → e ≡ true
    → f ≡ true
    → g ≡ true → h ≡ true → i ≡ true → j ≡ true → k ≡ true
    → position not (a ∷ b ∷ c ∷ d ∷ e ∷ f ∷ (g && h) ∷ (i && j) ∷ k ∷ []) ≡ None
no_line a b c d e f g h i j k l m n o p q r s t u v = rw (l, m, n, o, p, q, r, s, t, u, v) refl

same_report : (r : Report) → differing_line r r ≡ None
same_report r =
    no_line _ _ _ _ _ _ _ _ _ _ _ (same_kind r.kind) (int_same r.lat) (int_same r.lon)
    (int_same r.azimuth) (int_same r.scale) (int_same r.ppm)
    (eq-eqb r.row r.row refl) (eq-eqb r.col r.col refl)
    (eq-eqb r.cells r.cells refl) (eq-eqb r.missing r.missing refl) (eq-eqb r.nodes r.nodes refl)

no_other_report : (names : Option Names) (r : Report) (actual : Option Report) → actual ≡ Some r
    → other_report names r actual ≡ None
no_other_report names r actual e = rw (e, same_report r) refl

-- the printed cost is the cost
printed_share : (tolerance : Option ℕ) (over : ℕ) → (tolerance ≡ None → over ≡ 0)
    → printed_over (share_of tolerance over) ≡ over
printed_share None over none = sym (none refl)
printed_share (Some t) over none = refl

none_against : (a b c d e f g : Option Reason) → a ≡ None → b ≡ None → c ≡ None → d ≡ None
    → e ≡ None → f ≡ None
    → g ≡ None → first_some (a ∷ b ∷ c ∷ d ∷ e ∷ f ∷ g ∷ []) ≡ None
none_against a b c d e f g h i j k l m n = rw (h, i, j, k, l, m, n) refl

-- the cost of the best design, under its certificate
best_is_least : (p : Problem) (x : Ranked) → best p ≡ Some x → IsLeast p x.cost
best_is_least p x is =
    let rank : IsRankOf p x.design x = ranked_usable p x.design x (best_ranked p x is).ranked in
    record {
      least = λ d a u. best_least p x d is a u;
      uncounted = λ none. ap (λ c. c.over) rank.cost
          ∙ none_beyond p.tolerance (sizes p x.design) none;
    }

pair_same : (k l m n : ℕ) → k ≡ l → m ≡ n
    → ◌≡◌ {A = Pair} (record { over = k; value = m }) (record { over = l; value = n })
pair_same k l m n e h = rw (e, h) refl

printed_cost : (p : Problem) (list : CellList) (names : Names) (x : Ranked) (job : Job)
    → best p ≡ Some x
    → IsCertificateOf p list names x job → printed job ≡ x.cost
printed_cost p list names x job is h =
    pair_same _ x.cost.over _ x.cost.value
    (ap printed_over h.share
    ∙ printed_share p.tolerance x.cost.over (best_is_least p x is).uncounted)
    (ap unsigned_abs h.worst)

no_reason : (p : Problem) (list : CellList) (names : Names) (x : Ranked) (job : Job) → IsSound p
    → AreGrids p.families → best p ≡ Some x → IsCertificateOf p list names x job
    → reason_against p list names job ≡ None
no_reason p list names x job sound grids is h =
    let ranked : IsRanked p x = best_ranked p x is in
    let rank : IsRankOf p x.design x = ranked_usable p x.design x ranked.ranked in
    let cost_is : cost p job.design ≡ x.cost = ap (cost p) h.design ∙ sym rank.cost in
    none_against (input_differs names job) (not_admitted p job) (not_usable p job)
    (over_differs p job) (worst_differs p job) (report_differs p list job) (forest_fault p job)
    (ap (option_map OtherInput) (no_other_input names job.names h.names))
    (ap (λ t. then_some (not t) NotAdmissible)
    (ap (is_admitted p.families) h.design
    ∙ (admitted_are_tested p.families x.design).1 ranked.admitted))
    (ap (option_map DesignUnusable)
    (ap (first_undefined p) h.design ∙ usable_has_none p x.design rank.usable))
    (ap (λ c. other_over job.share c.over) cost_is
    ∙ ap (λ s. other_over s x.cost.over) h.share ∙ same_over p.tolerance x.cost.over)
    (ap (λ c. other_worst job.worst (pos c.value)) cost_is
    ∙ ap (λ z. other_worst z (pos x.cost.value)) h.worst ∙ same_worst (pos x.cost.value))
    (no_other_report job.names job.report (actual_report p list job)
    (ap (λ c. report_of p.families list job.design (pos c.value) (worst_cell p job.design)
    (node_count job.forest)) cost_is
    ∙ ap (λ d. report_of p.families list d (pos x.cost.value) (worst_cell p d)
    (node_count job.forest)) h.design
    ∙ ap (λ ns. report_of p.families list x.design (pos x.cost.value) (worst_cell p x.design)
    (node_count ns)) h.forest
    ∙ h.report))
    (ap (λ w. first_fault p w (forest_line job.names) job.forest start)
    (printed_cost p list names x job is h)
    ∙ ap (λ ns. first_fault p x.cost (forest_line job.names) ns start) h.forest
    ∙ forest_walked p x.cost (forest_line job.names) sound grids (best_is_least p x is)
    (ap (option_map (λ y. y.cost)) is))

pub best_are_accepted : BestAreAccepted
best_are_accepted p list names x job sound grids is h =
    ap verdict_by (no_reason p list names x job sound grids is h)

pub best_are_shaped : BestAreShaped
best_are_shaped p list names x job grids few h =
    subst IsWellShaped (sym h.forest) (record { shape = forest_is_shaped p grids; few = few })
