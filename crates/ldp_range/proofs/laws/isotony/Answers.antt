use Rattle.ldp_range.proofs.Isotony.{isotony, step-isotony}
use Rattle.ldp_range.proofs.laws.isotony.Goals as goal

pub returns-clause-value : goal.returns-clause-value
returns-clause-value c = isotony

pub returns-clause-steps : goal.returns-clause-steps
returns-clause-steps c = step-isotony
