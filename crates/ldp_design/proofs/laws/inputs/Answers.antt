use Rattle.ldp_design.proofs.Between.{inputs_lie_between}
use Rattle.ldp_design.proofs.laws.inputs.Goals as goal

pub returns : goal.returns
returns c = inputs_lie_between
