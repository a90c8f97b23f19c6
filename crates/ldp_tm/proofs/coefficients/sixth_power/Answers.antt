use Rattle.std.proofs.Common.{rules}
use Rattle.ldp_tm.specs.TransverseMercator.{sixth_power}
use Rattle.ldp_tm.proofs.coefficients.sixth_power.Goals as goal

pub returns : goal.returns
unfolding sixth_power
returns c =
    record { made = c.in_ok-place.ensures.ok.made; added = search rules }
