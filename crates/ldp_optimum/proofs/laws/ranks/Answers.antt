use Rattle.ldp_optimum.proofs.Bests.{usable_ranked, ranked_usable}
use Rattle.ldp_optimum.proofs.Order.{ranked_total, better_weak, not_better_itself}
use Rattle.ldp_optimum.proofs.Order.{same_ranked}
use Rattle.ldp_optimum.proofs.laws.ranks.Goals as goal

pub returns-clause-usable : goal.returns-clause-usable
returns-clause-usable c = usable_ranked

pub returns-clause-ranked : goal.returns-clause-ranked
returns-clause-ranked c = ranked_usable

pub returns-clause-ordered : goal.returns-clause-ordered
returns-clause-ordered c = ranked_total

pub returns-clause-weak : goal.returns-clause-weak
returns-clause-weak c = better_weak

pub returns-clause-itself : goal.returns-clause-itself
returns-clause-itself c = not_better_itself

pub returns-clause-distinct : goal.returns-clause-distinct
returns-clause-distinct c = same_ranked
