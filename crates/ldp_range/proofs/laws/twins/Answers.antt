use Rattle.ldp_range.proofs.Bounds.{most, fewest, own, numbers}
use Rattle.ldp_range.proofs.laws.twins.Goals as goal

pub returns-clause-most : goal.returns-clause-most
returns-clause-most c = most

pub returns-clause-fewest : goal.returns-clause-fewest
returns-clause-fewest c = fewest

pub returns-clause-own : goal.returns-clause-own
returns-clause-own c = own

pub returns-clause-numbers : goal.returns-clause-numbers
returns-clause-numbers c = numbers
