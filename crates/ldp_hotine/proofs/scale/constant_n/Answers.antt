use Rattle.std.proofs.Common.{refl, rules}
use Rattle.ldp_series.specs.Formula.{then}
use Rattle.ldp_hotine.specs.Hotine.{constant_n}
use Rattle.ldp_hotine.proofs.scale.constant_n.Goals as goal

pub returns : goal.returns
unfolding constant_n
returns c =
    record {
      made =
          then _ _ _
          (then _ _ _ c.in_ok-s.ensures.made (then _ _ _ refl c.in_ok-left.ensures.ok.made))
          (then _ _ _ (then _ _ _ refl (then _ _ _ refl c.in_ok-right.ensures.ok.made))
          c.in_ok-sum.ensures.ok.made);
      added = search rules;
    }
