use Rattle.ldp_problem.proofs.Facts.{single_exact}
use Rattle.ldp_problem.proofs.laws.singles.Goals as goal

pub returns : goal.returns
returns c = single_exact
