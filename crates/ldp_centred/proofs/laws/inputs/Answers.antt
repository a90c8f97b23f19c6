use Rattle.ldp_centred.proofs.Least.{input-meets}
use Rattle.ldp_centred.proofs.laws.inputs.Goals as goal

pub returns : goal.returns
returns c = input-meets
