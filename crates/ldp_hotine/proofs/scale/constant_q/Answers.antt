use Rattle.std.proofs.Common.{refl, rules}
use Rattle.ldp_series.specs.Formula.{then}
use Rattle.ldp_hotine.specs.Hotine.{constant_q}
use Rattle.ldp_hotine.proofs.scale.constant_q.Goals as goal

pub returns : goal.returns
unfolding constant_q
returns c =
    record {
      made =
          then _ _ _ (then _ _ _ refl (then _ _ _ refl c.in_ok-x.ensures.ok.made))
          (then _ _ _ c.in_ok-y.ensures.ok.made
          (then _ _ _ refl (then _ _ _ refl c.in_ok-q.ensures.ok.made)));
      added = search rules;
    }
