use Rattle.ldp_range.proofs.Ends.{hull-holds}
use Rattle.ldp_range.proofs.laws.hulls.Goals as goal

pub returns : goal.returns
returns c = hull-holds
