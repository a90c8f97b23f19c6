use Rattle.ldp_design.proofs.Splits.{splits_cut}
use Rattle.ldp_design.proofs.laws.splits.Goals as goal

pub returns : goal.returns
returns c = splits_cut
