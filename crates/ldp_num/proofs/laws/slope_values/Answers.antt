use Rattle.ldp_num.proofs.Listed.{slope_value, slope_told, slope_back}
use Rattle.ldp_num.proofs.laws.slope_values.Goals as goal

pub returns-clause-value : goal.returns-clause-value
returns-clause-value c = slope_value

pub returns-clause-told : goal.returns-clause-told
returns-clause-told c = slope_told

pub returns-clause-back : goal.returns-clause-back
returns-clause-back c = slope_back
