use Rattle.std.proofs.Common.{refl, rules}
use Rattle.ldp_series.specs.Formula.{then}
use Rattle.ldp_hotine.specs.Hotine.{scale_factor}
use Rattle.ldp_hotine.proofs.scale.scale_factor.Goals as goal

pub returns : goal.returns
unfolding scale_factor
returns c =
    record {
      made =
          then _ _ _ refl
          (then _ _ _
          (then _ _ _ refl
          (then _ _ _
          (then _ _ _
          (then _ _ _ (then _ _ _ refl c.in_ok-n_square.ensures.ok.made)
          (then _ _ _ (then _ _ _ refl c.in_ok-c_square.ensures.ok.made)
          c.in_ok-sum.ensures.ok.made))
          c.in_ok-root.ensures.ok.made)
          c.in_ok-divisor.ensures.ok.made))
          c.in_ok-k.ensures.ok.made);
      added = search rules;
    }
