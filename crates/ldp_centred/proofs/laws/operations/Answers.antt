use Rattle.ldp_centred.proofs.Sound.{operations-meet}
use Rattle.ldp_centred.proofs.laws.operations.Goals as goal

pub returns : goal.returns
returns c = operations-meet
