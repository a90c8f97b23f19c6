use Rattle.ldp_design.proofs.Wholes.{firsts_are_in, firsts_are_admitted}
use Rattle.ldp_design.proofs.laws.firsts.Goals as goal

pub returns-clause-within : goal.returns-clause-within
returns-clause-within c = firsts_are_in

pub returns-clause-admitted : goal.returns-clause-admitted
returns-clause-admitted c = firsts_are_admitted
