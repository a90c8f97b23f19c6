use Rattle.ldp_problem.proofs.Facts.{bound_at_cell, worst_at_cell}
use Rattle.ldp_problem.proofs.laws.named_cells.Goals as goal

pub returns-clause-bound : goal.returns-clause-bound
returns-clause-bound c = bound_at_cell

pub returns-clause-worst : goal.returns-clause-worst
returns-clause-worst c = worst_at_cell
