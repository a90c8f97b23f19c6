use Rattle.std.proofs.Common.{◌≡◌, IfOk, ap, subst, ◌∙◌}
use Rattle.ldp_answer.specs.Problem.{problem_over}
use Rattle.ldp_check.specs.Verdicts.{verdict_of}
use Rattle.ldp_answer.proofs.check.verdict_over.Goals as goal

pub returns-clause-verdict : goal.returns-clause-verdict
returns-clause-verdict c =
    subst (λ p. IfOk c.check.result (λ verdict.
    verdict ≡ verdict_of p c.args.cells.now c.args.names.now c.args.job.now))
    (c.in_ok-bounds.ensures.problem
    ∙ ap (problem_over c.args.grids.now.families c.args.cells.now.cells)
    c.tolerance_of.ensures.value)
    c.check.ensures.verdict
