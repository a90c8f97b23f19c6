use Rattle.ldp_num.proofs.Listed.{pair_value, pair_told}
use Rattle.ldp_num.proofs.laws.pair_values.Goals as goal

pub returns-clause-value : goal.returns-clause-value
returns-clause-value c = pair_value

pub returns-clause-told : goal.returns-clause-told
returns-clause-told c = pair_told
