use Rattle.ldp_design.proofs.Wholes.{wholes_hold}
use Rattle.ldp_design.proofs.laws.wholes.Goals as goal

pub returns : goal.returns
returns c = wholes_hold
