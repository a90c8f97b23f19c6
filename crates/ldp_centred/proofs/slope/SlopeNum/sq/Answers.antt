use Rattle.ldp_num.specs.Written.{slope_ops}
use Rattle.ldp_centred.proofs.Told.{one-told}
use Rattle.ldp_centred.proofs.slope.SlopeNum.sq.Goals as goal

pub returns : goal.returns
returns c = one-told slope_ops.sq c.args.self _ c.square.ensures
