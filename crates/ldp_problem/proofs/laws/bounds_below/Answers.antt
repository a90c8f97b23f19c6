use Rattle.ldp_problem.proofs.Facts.{bound_below, leaf_below, low_below}
use Rattle.ldp_problem.proofs.laws.bounds_below.Goals as goal

pub returns-clause-bound : goal.returns-clause-bound
returns-clause-bound c = bound_below

pub returns-clause-leaf : goal.returns-clause-leaf
returns-clause-leaf c = leaf_below

pub returns-clause-low : goal.returns-clause-low
returns-clause-low c = low_below
