use Rattle.ldp_optimum.proofs.Bests.{best_ranked, best_beats, best_least, best_first}
use Rattle.ldp_optimum.proofs.laws.best_designs.Goals as goal

pub returns-clause-ranked : goal.returns-clause-ranked
returns-clause-ranked c = best_ranked

pub returns-clause-unbeaten : goal.returns-clause-unbeaten
returns-clause-unbeaten c = best_beats

pub returns-clause-least : goal.returns-clause-least
returns-clause-least c = best_least

pub returns-clause-first : goal.returns-clause-first
returns-clause-first c = best_first
