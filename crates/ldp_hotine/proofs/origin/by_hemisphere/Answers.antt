use Rattle.std.proofs.Common.{rules}
use Rattle.ldp_series.specs.Formula.{◌>>=◌}
use Rattle.ldp_hotine.specs.Hotine.{by_hemisphere}
use Rattle.ldp_hotine.proofs.origin.by_hemisphere.Goals as goal

pub returns-in_ok-difference : goal.returns-in_ok-difference
unfolding by_hemisphere ◌>>=◌
returns-in_ok-difference c =
    record { made = rw c.if-south.true c.in_ok-difference.ensures.ok.made; added = search rules }

pub returns-in_ok-sum : goal.returns-in_ok-sum
unfolding by_hemisphere ◌>>=◌
returns-in_ok-sum c =
    record { made = rw c.if-south.false c.in_ok-sum.ensures.ok.made; added = search rules }
