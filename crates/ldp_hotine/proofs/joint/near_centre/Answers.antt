use Rattle.std.proofs.Common.{refl, rules}
use Rattle.ldp_series.specs.Formula.{then}
use Rattle.ldp_hotine.specs.Hotine.{near_centre}
use Rattle.ldp_hotine.proofs.joint.near_centre.Goals as goal

pub returns : goal.returns
unfolding near_centre
returns c =
    record {
      made =
          then _ _ _
          (then _ _ _ c.in_ok-one.ensures.ok.made
          (then _ _ _ (then _ _ _ refl c.in_ok-square.ensures.ok.made)
          c.in_ok-rest.ensures.ok.made))
          c.in_ok-within.ensures.ok.made;
      added = search rules;
    }
