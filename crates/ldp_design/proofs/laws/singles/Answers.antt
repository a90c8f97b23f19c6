use Rattle.ldp_design.proofs.Splits.{singles_are_tested}
use Rattle.ldp_design.proofs.Wholes.{singles_have_one}
use Rattle.ldp_design.proofs.laws.singles.Goals as goal

pub returns-clause-one : goal.returns-clause-one
returns-clause-one c = singles_have_one

pub returns-clause-tested : goal.returns-clause-tested
returns-clause-tested c = singles_are_tested
