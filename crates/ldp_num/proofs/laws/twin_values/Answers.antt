use Rattle.ldp_num.proofs.Listed.{twin_value, twin_told}
use Rattle.ldp_num.proofs.laws.twin_values.Goals as goal

pub returns-clause-value : goal.returns-clause-value
returns-clause-value c = twin_value

pub returns-clause-told : goal.returns-clause-told
returns-clause-told c = twin_told
