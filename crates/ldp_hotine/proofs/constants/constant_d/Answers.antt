use Rattle.std.proofs.Common.{refl, rules}
use Rattle.ldp_series.specs.Formula.{then}
use Rattle.ldp_hotine.specs.Hotine.{constant_d}
use Rattle.ldp_hotine.proofs.constants.constant_d.Goals as goal

pub returns : goal.returns
unfolding constant_d
returns c =
    record {
      made =
          then _ _ _ (then _ _ _ refl (then _ _ _ refl c.in_ok-product.ensures.ok.made))
          (then _ _ _
          (then _ _ _ refl
          (then _ _ _ (then _ _ _ refl c.in_ok-root.ensures.ok.made)
          c.in_ok-divisor.ensures.ok.made))
          c.in_ok-quotient.ensures.ok.made);
      added = search rules;
    }
