use Rattle.std.proofs.Common.{refl, rules}
use Rattle.ldp_series.specs.Formula.{then}
use Rattle.ldp_hotine.specs.Hotine.{constant_b}
use Rattle.ldp_hotine.proofs.constants.constant_b.Goals as goal

pub returns : goal.returns
unfolding constant_b
returns c =
    record {
      made =
          then _ _ _
          (then _ _ _ c.in_ok-one.ensures.ok.made
          (then _ _ _
          (then _ _ _ c.in_ok-u.ensures.made
          (then _ _ _
          (then _ _ _ (then _ _ _ refl c.in_ok-square.ensures.ok.made)
          c.in_ok-fourth.ensures.ok.made)
          c.in_ok-product.ensures.ok.made))
          c.in_ok-sum.ensures.ok.made))
          c.in_ok-root.ensures.ok.made;
      added = search rules;
    }
