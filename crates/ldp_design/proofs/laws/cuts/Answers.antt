use Rattle.ldp_design.proofs.Cuts.{cuts_part}
use Rattle.ldp_design.proofs.laws.cuts.Goals as goal

pub returns : goal.returns
returns c = cuts_part
