use Rattle.ldp_bound.proofs.Tallies.{with_greater, with_lesser}
use Rattle.ldp_bound.proofs.summary.Summary.with.Goals as goal

pub returns-then-value-self-clause-value : goal.returns-then-value-self-clause-value
returns-then-value-self-clause-value c =
    λ values count is.
    with_greater c.args.tolerance values c.args.value c.args.cell c.over_with-over.result
    c.args.self c.over_with-over.ensures
    c.if-value-self.true count is

pub returns-clause-value : goal.returns-clause-value
returns-clause-value c =
    λ values count is.
    with_lesser c.args.tolerance values c.args.value c.over_with-over.result c.args.self
    c.over_with-over.ensures
    c.if-value-self.false is
