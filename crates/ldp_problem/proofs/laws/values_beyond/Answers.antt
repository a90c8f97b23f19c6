use Rattle.ldp_problem.proofs.Cells.{beyond_grows, beyond_of_one}
use Rattle.ldp_problem.proofs.laws.values_beyond.Goals as goal

pub returns-clause-grows : goal.returns-clause-grows
returns-clause-grows c = beyond_grows

pub returns-clause-one : goal.returns-clause-one
returns-clause-one c = beyond_of_one
