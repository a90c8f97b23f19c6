use Rattle.std.proofs.Common.{◌∙◌}
use Rattle.ldp_bound.proofs.Cells.{new_problem}
use Rattle.ldp_bound.proofs.plain.Plain.new.Goals as goal

pub returns-clause-problem : goal.returns-clause-problem
returns-clause-problem c =
    let kept = c.in_ok-kept.kept in
    new_problem c.args.grids.now.families kept.grids.families c.args.cells.now.cells kept.kinds kept.count
    kept.tolerance _ c.in_ok-kept.ensures.grids
    c.in_ok-kept.ensures.kinds c.in_ok-kept.ensures.count
    (c.in_ok-kept.ensures.tolerance ∙ c.units.ensures)
