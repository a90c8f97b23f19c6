use Rattle.ldp_design.proofs.Wholes.{boxes_are_admitted, admitted_are_tested}
use Rattle.ldp_design.proofs.laws.admitted.Goals as goal

pub returns-clause-boxes : goal.returns-clause-boxes
returns-clause-boxes c = boxes_are_admitted

pub returns-clause-tested : goal.returns-clause-tested
returns-clause-tested c = admitted_are_tested
