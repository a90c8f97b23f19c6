use Rattle.ldp_num.proofs.Listed.{plain_value, plain_told}
use Rattle.ldp_num.proofs.laws.plain_values.Goals as goal

pub returns-clause-value : goal.returns-clause-value
returns-clause-value c = plain_value

pub returns-clause-told : goal.returns-clause-told
returns-clause-told c = plain_told
