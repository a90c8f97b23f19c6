use Rattle.ldp_num.specs.Written.{slope_ops}
use Rattle.ldp_centred.proofs.Told.{two-told}
use Rattle.ldp_centred.proofs.slope.SlopeNum.mul.Goals as goal

pub returns : goal.returns
returns c = two-told slope_ops.mul c.args.self c.args.other _ c.product.ensures
