use Rattle.std.proofs.Common.{refl}
use Rattle.ldp_distortion.specs.Worst.{worst_of}
use Rattle.ldp_distortion.proofs.Usable.{value_where_usable}
use Rattle.ldp_distortion.proofs.laws.usable.Goals as goal

pub returns : goal.returns
returns c = λ distortions. value_where_usable (worst_of distortions) distortions refl
