use Rattle.std.proofs.Common.{refl, rules}
use Rattle.ldp_series.specs.Formula.{then}
use Rattle.ldp_lambert2.specs.LambertTwo.{cone_constant}
use Rattle.ldp_lambert2.proofs.design.cone_constant.Goals as goal

pub returns : goal.returns
unfolding cone_constant
returns c =
    record {
      made =
          then _ _ _ (then _ _ _ refl (then _ _ _ refl c.in_ok-d.ensures.ok.made))
          (then _ _ _ c.in_ok-_within.ensures.made
          (then _ _ _ (then _ _ _ refl (then _ _ _ refl c.in_ok-ratio.ensures.ok.made))
          (then _ _ _ c.in_ok-logarithm.ensures.ok.made
          (then _ _ _ refl c.in_ok-n.ensures.ok.made))));
      added = search rules;
    }
