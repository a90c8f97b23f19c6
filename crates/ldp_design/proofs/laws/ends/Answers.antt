use Rattle.ldp_design.proofs.Splits.{singles_end}
use Rattle.ldp_design.proofs.laws.ends.Goals as goal

pub returns : goal.returns
returns c = singles_end
