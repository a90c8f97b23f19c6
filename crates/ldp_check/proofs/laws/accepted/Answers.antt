use Rattle.ldp_check.proofs.Verdicts.{accepted_are_proved}
use Rattle.ldp_check.proofs.laws.accepted.Goals as goal

pub returns : goal.returns
returns c = accepted_are_proved
