use Rattle.ldp_centred.proofs.Ranges.{ranges-kept, step-ranges-kept}
use Rattle.ldp_centred.proofs.laws.ranges.Goals as goal

pub returns-clause-value : goal.returns-clause-value
returns-clause-value c = ranges-kept

pub returns-clause-steps : goal.returns-clause-steps
returns-clause-steps c = step-ranges-kept
