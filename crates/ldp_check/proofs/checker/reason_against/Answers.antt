use Rattle.std.proofs.Common.{◌≡◌, ℤ, false, None, Some, Option, sym, ap, ◌∙◌, subst, rules, arith}
use Rattle.std.specs.Option.{option_or}
use Rattle.std.proofs.lemmas.Int.{to_z-of_z}
use mir.Val.{SFits, to_z, of_z}
use mir.Syntax.{w128}
use Rattle.ldp_design.specs.Designs.{IsAdmitted, is_admitted}
use Rattle.ldp_design.proofs.Wholes.{admitted_are_tested}
use Rattle.ldp_problem.specs.Problem.{Problem}
use Rattle.ldp_problem.specs.Costs.{first_undefined}
use Rattle.ldp_problem.proofs.Facts.{worst_at_cell}
use Rattle.ldp_check.specs.declared.reason.Reason.{Reason}
use Rattle.ldp_check.specs.Inputs.{other_input}
use Rattle.ldp_check.specs.Verdicts.{forest_fault}
use Rattle.ldp_check.proofs.Answered.{IsCost, cost_is, cost_undefined}
use Rattle.ldp_check.proofs.Verdicts.{not_admitted_first}
use Rattle.ldp_check.proofs.Verdicts.{unusable_first, known_reason}
use Rattle.ldp_check.proofs.checker.reason_against.Goals as goal

pub returns-then-not-admits-clause-reason : goal.returns-then-not-admits-clause-reason
returns-then-not-admits-clause-reason g c =
    let p : Problem = g.B.Bounds.problem c.args.bounds.now in
    let input : other_input c.args.names.now c.args.job.now.names ≡ None =
    sym c.other_input.ensures ∙ c.in_default.is in
    let test : is_admitted p.families c.args.job.now.design ≡ false =
    rw c.requires.families (sym c.admits.ensures.value ∙ c.if-not-admits.true) in
    sym (not_admitted_first p c.args.cells.now c.args.names.now c.args.job.now input test)

pub returns-in-Unusable-clause-reason : goal.returns-in-Unusable-clause-reason
returns-in-Unusable-clause-reason g c =
    let p : Problem = g.B.Bounds.problem c.args.bounds.now in
    let input : other_input c.args.names.now c.args.job.now.names ≡ None =
    sym c.other_input.ensures ∙ c.in_default.is in
    let admitted : IsAdmitted p.families c.args.job.now.design =
    rw c.requires.families (c.admits.ensures.admitted.0 c.if-not-admits.false) in
    let undefined : first_undefined p c.args.job.now.design ≡ Some c.in-Unusable.cell =
    cost_undefined p c.args.job.now.design c.in-Unusable.cell
    (sym c.in-Unusable.is ∙ c.cost.ensures.value) in
    sym
    (unusable_first p c.args.cells.now c.args.names.now c.args.job.now c.in-Unusable.cell input
    ((admitted_are_tested p.families c.args.job.now.design).1 admitted) undefined)

pub printed_differs-requires-clause-cell : goal.printed_differs-requires-clause-cell
printed_differs-requires-clause-cell g c =
    let p : Problem = g.B.Bounds.problem c.args.bounds.now in
    let cost : IsCost p c.args.job.now.design c.in-Is.over c.in-Is.value c.in-Is.cell =
    cost_is p c.args.job.now.design c.in-Is.over c.in-Is.cell c.in-Is.value
    (sym c.in-Is.is ∙ c.cost.ensures.value) in
    omega (
      arith,
      cost.same_cell,
      worst_at_cell p c.args.job.now.design (g.met.B.Bounds.sound c.args.bounds.now).some_cell,
      c.requires.cells,
    )

pub returns-in-Some-printed_differs-clause-reason :
    goal.returns-in-Some-printed_differs-clause-reason
returns-in-Some-printed_differs-clause-reason g c =
    let p : Problem = g.B.Bounds.problem c.args.bounds.now in
    let input : other_input c.args.names.now c.args.job.now.names ≡ None =
    sym c.other_input.ensures ∙ c.in_default.is in
    let admitted : IsAdmitted p.families c.args.job.now.design =
    rw c.requires.families (c.admits.ensures.admitted.0 c.if-not-admits.false) in
    let cost : IsCost p c.args.job.now.design c.in-Is.over c.in-Is.value c.in-Is.cell =
    cost_is p c.args.job.now.design c.in-Is.over c.in-Is.cell c.in-Is.value
    (sym c.in-Is.is ∙ c.cost.ensures.value) in
    let fits : SFits w128 c.in-Is.value = search rules in
    let value : ℤ = to_z w128 (of_z w128 c.in-Is.value) in
    let passed : IsCost p c.args.job.now.design c.in-Is.over value c.in-Is.cell =
    subst (λ (z : ℤ). IsCost p c.args.job.now.design c.in-Is.over z c.in-Is.cell)
    (sym (to_z-of_z w128 c.in-Is.value fits)) cost in
    sym
    (known_reason p c.args.cells.now c.args.names.now c.args.job.now c.args.grids.now.families
    c.in-Is.over c.in-Is.cell value
    c.printed_differs.result input admitted passed c.requires.families c.printed_differs.ensures
    ∙ ap (λ (o : Option Reason). option_or o (forest_fault p c.args.job.now))
    c.in-Some-printed_differs.is)

pub returns-in_default-printed_differs-clause-reason :
    goal.returns-in_default-printed_differs-clause-reason
returns-in_default-printed_differs-clause-reason g c =
    let p : Problem = g.B.Bounds.problem c.args.bounds.now in
    let input : other_input c.args.names.now c.args.job.now.names ≡ None =
    sym c.other_input.ensures ∙ c.in_default.is in
    let admitted : IsAdmitted p.families c.args.job.now.design =
    rw c.requires.families (c.admits.ensures.admitted.0 c.if-not-admits.false) in
    let cost : IsCost p c.args.job.now.design c.in-Is.over c.in-Is.value c.in-Is.cell =
    cost_is p c.args.job.now.design c.in-Is.over c.in-Is.cell c.in-Is.value
    (sym c.in-Is.is ∙ c.cost.ensures.value) in
    let fits : SFits w128 c.in-Is.value = search rules in
    let value : ℤ = to_z w128 (of_z w128 c.in-Is.value) in
    let passed : IsCost p c.args.job.now.design c.in-Is.over value c.in-Is.cell =
    subst (λ (z : ℤ). IsCost p c.args.job.now.design c.in-Is.over z c.in-Is.cell)
    (sym (to_z-of_z w128 c.in-Is.value fits)) cost in
    let fault : c.first_fault.result ≡ forest_fault p c.args.job.now =
    rw (c.cost.ensures.same, c.printed.ensures, c.forest_line-first.ensures.value) at
    c.first_fault.ensures.fault in
    fault
    ∙ sym
    (known_reason p c.args.cells.now c.args.names.now c.args.job.now c.args.grids.now.families
    c.in-Is.over c.in-Is.cell value
    c.printed_differs.result input admitted passed c.requires.families c.printed_differs.ensures
    ∙ ap (λ (o : Option Reason). option_or o (forest_fault p c.args.job.now))
    c.in_default-printed_differs.is)
