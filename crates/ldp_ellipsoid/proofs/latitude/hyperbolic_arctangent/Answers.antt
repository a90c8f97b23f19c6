use Rattle.std.proofs.Common.{refl, rules}
use Rattle.ldp_series.specs.Formula.{then}
use Rattle.ldp_ellipsoid.specs.Ellipsoid.{hyperbolic_arctangent}
use Rattle.ldp_ellipsoid.proofs.latitude.hyperbolic_arctangent.Goals as goal

pub returns : goal.returns
unfolding hyperbolic_arctangent
returns c =
    record {
      made =
          then _ _ _
          (then _ _ _
          (then _ _ _ c.in_ok-one.ensures.ok.made (then _ _ _ refl c.in_ok-sum.ensures.ok.made))
          (then _ _ _
          (then _ _ _ c.in_ok-one_again.ensures.ok.made
          (then _ _ _ refl c.in_ok-difference.ensures.ok.made))
          c.in_ok-ratio.ensures.ok.made))
          (then _ _ _ c.in_ok-logarithm.ensures.ok.made
          (then _ _ _ c.in_ok-two.ensures.ok.made c.in_ok-half.ensures.ok.made));
      added = search rules;
    }
