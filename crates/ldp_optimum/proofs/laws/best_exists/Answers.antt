use Rattle.ldp_optimum.proofs.Bests.{no_best_none_usable, unbeaten_best, none_usable_no_best}
use Rattle.ldp_optimum.proofs.laws.best_exists.Goals as goal

pub returns-clause-none : goal.returns-clause-none
returns-clause-none c = no_best_none_usable

pub returns-clause-unbeaten : goal.returns-clause-unbeaten
returns-clause-unbeaten c = unbeaten_best

pub returns-clause-unusable : goal.returns-clause-unusable
returns-clause-unusable c = none_usable_no_best
