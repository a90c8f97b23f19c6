use Rattle.std.proofs.Common.{rules}
use Rattle.ldp_series.specs.Formula.{then}
use Rattle.ldp_ellipsoid.specs.Ellipsoid.{second_eccentricity_squared}
use Rattle.ldp_ellipsoid.proofs.groups.second_eccentricity_squared.Goals as goal

pub returns : goal.returns
unfolding second_eccentricity_squared
returns c =
    record {
      made =
          then _ _ _ c.in_ok-e2.ensures.ok.made
          (then _ _ _
          (then _ _ _ c.in_ok-one.ensures.ok.made
          (then _ _ _ c.in_ok-again.ensures.ok.made c.in_ok-rest.ensures.ok.made))
          c.in_ok-quotient.ensures.ok.made);
      added = search rules;
    }
