use Rattle.ldp_range.proofs.Sharpness.{sharpness, step-sharpness}
use Rattle.ldp_range.proofs.laws.sharpness.Goals as goal

pub returns-clause-value : goal.returns-clause-value
returns-clause-value c = sharpness

pub returns-clause-steps : goal.returns-clause-steps
returns-clause-steps c = step-sharpness
