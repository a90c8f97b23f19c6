use Rattle.ldp_range.proofs.Held.{twin-inclusion, step-twin-inclusion}
use Rattle.ldp_range.proofs.laws.twin_inclusion.Goals as goal

pub returns-clause-value : goal.returns-clause-value
returns-clause-value c = twin-inclusion

pub returns-clause-steps : goal.returns-clause-steps
returns-clause-steps c = step-twin-inclusion
