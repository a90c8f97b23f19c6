use Rattle.std.proofs.Common.{refl}
use Rattle.ldp_series.specs.Formula.{then}
use Rattle.ldp_ellipsoid.specs.Ellipsoid.{geo}
use Rattle.ldp_ellipsoid.proofs.groups.geo.Goals as goal

pub returns-clause-ok : goal.returns-clause-ok
unfolding geo
returns-clause-ok c =
    then _ _ _ c.in_ok-s.ensures.ok.made
    (then _ _ _ c.in_ok-c.ensures.ok.made
    (then _ _ _
    (then _ _ _ c.in_ok-one.ensures.ok.made
    (then _ _ _
    (then _ _ _ c.in_ok-e2.ensures.ok.made
    (then _ _ _ (then _ _ _ refl c.in_ok-s2.ensures.ok.made) c.in_ok-product.ensures.ok.made))
    c.in_ok-w.ensures.ok.made))
    refl))
