use Rattle.ldp_problem.proofs.Cells.{largest_push, at_most_largest}
use Rattle.ldp_problem.proofs.laws.largest_values.Goals as goal

pub returns-clause-grows : goal.returns-clause-grows
returns-clause-grows c = largest_push

pub returns-clause-above : goal.returns-clause-above
returns-clause-above c = at_most_largest
