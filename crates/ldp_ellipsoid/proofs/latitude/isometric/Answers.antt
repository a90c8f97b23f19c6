use Rattle.std.proofs.Common.{refl, rules}
use Rattle.ldp_series.specs.Formula.{then}
use Rattle.ldp_ellipsoid.specs.Ellipsoid.{isometric}
use Rattle.ldp_ellipsoid.proofs.latitude.isometric.Goals as goal

pub returns : goal.returns
unfolding isometric
returns c =
    record {
      made =
          then _ _ _ c.in_ok-sphere.ensures.made
          (then _ _ _ (then _ _ _ c.in_ok-e2.ensures.ok.made c.in_ok-e.ensures.ok.made)
          (then _ _ _ (then _ _ _ refl (then _ _ _ refl c.in_ok-t.ensures.ok.made))
          (then _ _ _ refl
          (then _ _ _
          (then _ _ _ refl
          (then _ _ _ c.in_ok-flattening.ensures.made c.in_ok-ellipsoid.ensures.ok.made))
          c.in_ok-q.ensures.ok.made))));
      added = search rules;
    }
