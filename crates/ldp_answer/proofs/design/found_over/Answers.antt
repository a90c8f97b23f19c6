use Rattle.std.proofs.Common.{option_map, unsigned_abs}
use Rattle.ldp_answer.specs.Problem.{problem_over}
use Rattle.ldp_bound.specs.Kept.{kept_problem}
use Rattle.ldp_answer.proofs.Designs.{refused_over}
use Rattle.ldp_answer.proofs.design.found_over.Goals as goal

pub returns-clause-refused : goal.returns-clause-refused
returns-clause-refused c =
    let kept = c.in_ok-bounds.bounds.kept in
    refused_over c.found_by.result
    (kept_problem kept.grids.families kept.kinds kept.count kept.tolerance)
    (problem_over c.args.grids.now.families c.args.cells.now.cells
    (option_map unsigned_abs c.args.tolerance))
    c.args.cells.now c.args.budget c.in_ok-bounds.ensures.problem c.found_by.ensures.refused
