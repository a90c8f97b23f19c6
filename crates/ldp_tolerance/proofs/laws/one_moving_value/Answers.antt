use Rattle.ldp_tolerance.proofs.Steps.{one-moving-value}
use Rattle.ldp_tolerance.proofs.laws.one_moving_value.Goals as goal

pub returns : goal.returns
returns c = one-moving-value
