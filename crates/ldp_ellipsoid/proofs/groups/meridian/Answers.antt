use Rattle.std.proofs.Common.{refl, rules}
use Rattle.ldp_series.specs.Formula.{then}
use Rattle.ldp_ellipsoid.specs.Ellipsoid.{meridian}
use Rattle.ldp_ellipsoid.proofs.groups.meridian.Goals as goal

pub returns : goal.returns
unfolding meridian
returns c =
    record {
      made =
          then _ _ _ refl
          (then _ _ _ (then _ _ _ refl c.in_ok-root.ensures.ok.made)
          c.in_ok-radius.ensures.ok.made);
      added = search rules;
    }
