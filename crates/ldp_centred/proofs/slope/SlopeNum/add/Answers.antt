use Rattle.ldp_num.specs.Written.{slope_ops}
use Rattle.ldp_centred.proofs.Told.{two-told}
use Rattle.ldp_centred.proofs.slope.SlopeNum.add.Goals as goal

pub returns : goal.returns
returns c = two-told slope_ops.add c.args.self c.args.other _ c.total.ensures
