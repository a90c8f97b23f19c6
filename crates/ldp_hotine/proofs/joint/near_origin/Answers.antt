use Rattle.std.proofs.Common.{refl, rules}
use Rattle.ldp_series.specs.Formula.{then}
use Rattle.ldp_hotine.specs.Hotine.{near_origin}
use Rattle.ldp_hotine.proofs.joint.near_origin.Goals as goal

pub returns : goal.returns
unfolding near_origin
returns c =
    record {
      made =
          then _ _ _
          (then _ _ _ c.in_ok-four.ensures.ok.made
          (then _ _ _ (then _ _ _ refl c.in_ok-square.ensures.ok.made)
          c.in_ok-rest.ensures.ok.made))
          c.in_ok-within.ensures.ok.made;
      added = search rules;
    }
