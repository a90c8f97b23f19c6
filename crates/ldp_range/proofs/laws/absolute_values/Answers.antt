use Rattle.ldp_range.proofs.Ends.{absolute-bounds, least-natural, absolute-of_one}
use Rattle.ldp_range.proofs.laws.absolute_values.Goals as goal

pub returns-clause-bounds : goal.returns-clause-bounds
returns-clause-bounds c = absolute-bounds

pub returns-clause-natural : goal.returns-clause-natural
returns-clause-natural c = least-natural

pub returns-clause-sharp : goal.returns-clause-sharp
returns-clause-sharp c = absolute-of_one
