use Rattle.ldp_problem.proofs.Pairs.{pair_total, at_most_trans}
use Rattle.ldp_problem.proofs.laws.pairs.Goals as goal

pub returns-clause-ordered : goal.returns-clause-ordered
returns-clause-ordered c = pair_total

pub returns-clause-follows : goal.returns-clause-follows
returns-clause-follows c = at_most_trans
