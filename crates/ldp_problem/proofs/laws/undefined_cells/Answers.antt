use Rattle.ldp_problem.proofs.Facts.{none_undefined, usable_has_none, first_undefined_is}
use Rattle.ldp_problem.proofs.laws.undefined_cells.Goals as goal

pub returns-clause-none : goal.returns-clause-none
returns-clause-none c = none_undefined

pub returns-clause-usable : goal.returns-clause-usable
returns-clause-usable c = usable_has_none

pub returns-clause-first : goal.returns-clause-first
returns-clause-first c = first_undefined_is
