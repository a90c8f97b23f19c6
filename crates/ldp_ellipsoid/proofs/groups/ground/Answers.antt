use Rattle.std.proofs.Common.{refl, rules}
use Rattle.ldp_series.specs.Formula.{then}
use Rattle.ldp_ellipsoid.specs.Ellipsoid.{ground_factor}
use Rattle.ldp_ellipsoid.proofs.groups.ground.Goals as goal

pub returns : goal.returns
unfolding ground_factor
returns c =
    record {
      made =
          then _ _ _
          (then _ _ _ c.in_ok-ratio.ensures.made (then _ _ _ refl c.in_ok-radius.ensures.ok.made))
          (then _ _ _ refl
          (then _ _ _ (then _ _ _ refl (then _ _ _ refl c.in_ok-sum.ensures.ok.made))
          c.in_ok-factor.ensures.ok.made));
      added = search rules;
    }
