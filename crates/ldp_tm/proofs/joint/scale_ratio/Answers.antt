use Rattle.std.proofs.Common.{refl, rules}
use Rattle.ldp_series.specs.Formula.{then}
use Rattle.ldp_tm.specs.TransverseMercator.{scale_ratio}
use Rattle.ldp_tm.proofs.joint.scale_ratio.Goals as goal

pub returns : goal.returns
unfolding scale_ratio
returns c =
    record {
      made =
          then _ _ _ c.in_ok-one.ensures.ok.made
          (then _ _ _
          (then _ _ _ refl
          (then _ _ _
          (then _ _ _ refl
          (then _ _ _
          (then _ _ _ refl
          (then _ _ _
          (then _ _ _ refl
          (then _ _ _ (then _ _ _ refl (then _ _ _ refl c.in_ok-sixth.ensures.ok.made))
          c.in_ok-inner.ensures.ok.made))
          c.in_ok-fourth.ensures.ok.made))
          c.in_ok-outer.ensures.ok.made))
          c.in_ok-second.ensures.ok.made))
          c.in_ok-ratio.ensures.ok.made);
      added = search rules;
    }
