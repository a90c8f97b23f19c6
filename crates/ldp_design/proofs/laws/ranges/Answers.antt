use Rattle.ldp_design.proofs.Ranged.{families_in_range}
use Rattle.ldp_design.proofs.laws.ranges.Goals as goal

pub returns : goal.returns
returns c = families_in_range
