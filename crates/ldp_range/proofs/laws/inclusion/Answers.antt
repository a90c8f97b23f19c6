use Rattle.ldp_range.proofs.Inclusion.{inclusion, step-inclusion}
use Rattle.ldp_range.proofs.laws.inclusion.Goals as goal

pub returns-clause-value : goal.returns-clause-value
returns-clause-value c = inclusion

pub returns-clause-steps : goal.returns-clause-steps
returns-clause-steps c = step-inclusion
