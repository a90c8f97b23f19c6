use Rattle.std.proofs.Common.{rules}
use Rattle.ldp_series.specs.Formula.{then}
use Rattle.ldp_ellipsoid.specs.Ellipsoid.{axis_ratio}
use Rattle.ldp_ellipsoid.proofs.groups.axis_ratio.Goals as goal

pub returns : goal.returns
unfolding axis_ratio
returns c =
    record {
      made =
          then _ _ _
          (then _ _ _ c.in_ok-one.ensures.ok.made
          (then _ _ _ c.in_ok-e2.ensures.ok.made c.in_ok-rest.ensures.ok.made))
          c.in_ok-root.ensures.ok.made;
      added = search rules;
    }
