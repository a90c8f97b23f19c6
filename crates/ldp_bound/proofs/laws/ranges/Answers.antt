use Rattle.ldp_bound.proofs.Sound.{range_holds, single_range}
use Rattle.ldp_bound.proofs.laws.ranges.Goals as goal

pub returns-clause-hold : goal.returns-clause-hold
returns-clause-hold c = range_holds

pub returns-clause-sharp : goal.returns-clause-sharp
returns-clause-sharp c = single_range
