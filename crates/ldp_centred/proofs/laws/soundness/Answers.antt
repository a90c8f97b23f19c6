use Rattle.ldp_centred.proofs.Sound.{soundness, step-soundness}
use Rattle.ldp_centred.proofs.laws.soundness.Goals as goal

pub returns-clause-value : goal.returns-clause-value
returns-clause-value c = soundness

pub returns-clause-steps : goal.returns-clause-steps
returns-clause-steps c = step-soundness
