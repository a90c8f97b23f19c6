use Rattle.std.proofs.Common.{◌∙◌}
use Rattle.ldp_bound.specs.Kept.{kept_problem}
use Rattle.ldp_bound.proofs.Told.{cost_told}
use Rattle.ldp_bound.proofs.plain.PlainBounds.cost.Goals as goal

pub returns-clause-value : goal.returns-clause-value
returns-clause-value c =
    let kept = c.args.self.now.kept in
    c.cost_in.ensures.value
    ∙ cost_told (kept_problem kept.grids.families kept.kinds kept.count kept.tolerance) c.args.d.now
