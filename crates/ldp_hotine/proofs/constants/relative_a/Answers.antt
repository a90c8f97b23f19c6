use Rattle.std.proofs.Common.{refl, rules}
use Rattle.ldp_series.specs.Formula.{then}
use Rattle.ldp_hotine.specs.Hotine.{relative_a}
use Rattle.ldp_hotine.proofs.constants.relative_a.Goals as goal

pub returns : goal.returns
unfolding relative_a
returns c =
    record {
      made =
          then _ _ _
          (then _ _ _ (then _ _ _ refl (then _ _ _ refl c.in_ok-scaled.ensures.ok.made))
          (then _ _ _ refl c.in_ok-product.ensures.ok.made))
          (then _ _ _ refl c.in_ok-quotient.ensures.ok.made);
      added = search rules;
    }
