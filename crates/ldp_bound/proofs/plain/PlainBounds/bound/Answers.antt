use Rattle.std.proofs.Common.{ap, sym, ◌∙◌, rules}
use Rattle.ldp_design.specs.Boxes.{IsSingle}
use Rattle.ldp_problem.specs.Costs.{cost_of}
use Rattle.ldp_problem.specs.Problem.{Problem}
use Rattle.ldp_bound.specs.Kept.{kept_problem}
use Rattle.ldp_bound.specs.Summary.{single_bound}
use Rattle.ldp_bound.proofs.Told.{cost_told, single_told, low_told}
use Rattle.ldp_bound.proofs.plain.PlainBounds.bound.Goals as goal

pub cost_in-cost-requires-clause-admitted : goal.cost_in-cost-requires-clause-admitted
cost_in-cost-requires-clause-admitted c =
    c.first.ensures.admitted c.args.self.now.kept.grids.families c.requires

pub returns-then-is_single-clause-value : goal.returns-then-is_single-clause-value
returns-then-is_single-clause-value c =
    let kept = c.args.self.now.kept in
    let p : Problem = kept_problem kept.grids.families kept.kinds kept.count kept.tolerance in
    let single : IsSingle c.args.b.now = search (rules, c.if-is_single.ensures.single) in
    c.bound_of_single.ensures
    ∙ ap single_bound (c.cost_in-cost.ensures.value ∙ cost_told p c.first.result
    ∙ ap (cost_of p) c.first.ensures.value)
    ∙ single_told p c.args.b.now kept.sound c.requires (sym c.if-is_single.ensures.value) single

pub returns-clause-value : goal.returns-clause-value
returns-clause-value c =
    let kept = c.args.self.now.kept in
    c.bound.ensures
    ∙ low_told (kept_problem kept.grids.families kept.kinds kept.count kept.tolerance) c.args.b.now
    c.lows_in-lows.result
    (sym c.if-is_single.ensures.value) c.lows_in-lows.ensures.value
