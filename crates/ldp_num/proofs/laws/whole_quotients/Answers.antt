use Rattle.ldp_num.proofs.Ring.{floor_is}
use Rattle.ldp_num.proofs.laws.whole_quotients.Goals as goal

pub returns : goal.returns
returns c = floor_is
